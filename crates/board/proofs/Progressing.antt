-- The parts of an advance join.
use Rattle.std.proofs.Common.{◌≡◌, ℕ, ◌+◌, ◌-◌, ◌≤◌, length, sym, ap, ap₂, ◌∙◌, subst, add-zero, arith}
use Rattle.agenda.specs.Waiting.{waiting, Kept}
use Rattle.rules.specs.I8259.{drive_lines}
use Rattle.rules.specs.Board as rules
use Rattle.rules.specs.Board.{Fitting, Counted, levels, hand, carry_out, tick_times, on_line, lines, precedes}
use Rattle.board_laws.specs.Jump.{Settled, Quiet, Idle, NoneDue, later, counted, jump, jump_first, carry_none, arrival_none, tick_times_time, tick_none, handing_settled, settled_later}
use Rattle.slots.specs.Slots.{States}
use Rattle.slots.specs.declared.fitted.Slots.{Ghosts}
use Rattle.board.specs.Steps.{Progress, Jumps, Arrives, Runs, ticking}
use Rattle.board.specs.View.{view}
use Rattle.board.specs.declared.board.Board.{Board}
use Rattle.board.proofs.Called.{kept_both, kept_same}

module _ {F S0 S1 S2 S3 : Type 0} {slots : Ghosts F} (states : F → States S0 S1 S2 S3) (f : Fitting S0 S1 S2 S3) where
  -- Two parts are one, with the edges of both, and within as many handings as both may take.
  pub progress_both : {p q r : Counted S0 S1 S2 S3 → Counted S0 S1 S2 S3} (m n d e : ℕ) (a b c : Board F slots) (handings edges : ℕ)
      → Progress states f p q m d a b → Progress states f q r n e b c → m + n ≤ handings → edges ≡ d + e → Progress states f p r handings edges a c
  progress_both {r = r} m n d e a b c handings edges first next most all = record {
    same = λ k. first.same k ∙ next.same (k + d) ∙ ap (λ t. r (counted f (view states c) t)) (omega arith);
    few = omega (arith, first.few, next.few);
    nodes = kept_both a.queue b.queue c.queue first.nodes next.nodes;
  }

  -- What is left of some ticks ends when they do.
  pub same_end : (m n : ℕ) (a b : Board F slots) (handings edges : ℕ) → Progress states f (ticking f m) (ticking f n) handings edges a b → b.time + n ≡ a.time + m
  same_end m n a b handings edges passed =
      omega (arith, ap (λ c. c.board.time) (passed.same 0), tick_times_time f m (counted f (view states a) 0), tick_times_time f n (counted f (view states b) (0 + edges)))

  -- Of n ticks, the first k in one jump, with no change of a level and no write before the last of them.
  pub jumped : (k n : ℕ) (a b : Board F slots) (edges : ℕ) → 1 ≤ k → k ≤ n → Settled f (view states a) → Quiet f (k - 1) (view states a) → Idle f (k - 1) (view states a)
      → Arrives states f k edges a b → Progress states f (ticking f n) (ticking f (n - k)) 1 edges a b
  jumped k n a b edges some within settled quiet idle arrived = record {
    same = λ e. jump_first f k n (view states a) e some within settled quiet idle ∙ ap (tick_times f (n - k)) (arrived.same e);
    few = arrived.few;
    nodes = arrived.nodes;
  }

  -- Where no write is due at the end of a jump, nothing is left to do there.
  pub jump_arrives : (k : ℕ) (a b : Board F slots) (edges : ℕ) → NoneDue (a.time + k) (view states a).pending → b.time ≡ a.time + k → b.queue ≡ a.queue
      → Jumps states f k edges a b → Arrives states f k edges a b
  jump_arrives k a b edges none time queue jumped = record {
    same = λ e. jumped.same e ∙ carry_none f (view states b).pending (view states b) (e + edges) none_now;
    few = jumped.few;
    nodes = jumped.nodes;
  }
    where
      none_now : NoneDue b.time (waiting precedes b.queue)
      none_now = subst (λ q. NoneDue b.time (waiting precedes q)) (sym queue) (subst (λ t. NoneDue t (waiting precedes a.queue)) (sym time) none)

  -- Where no write is due at the end of a jump, it has one handing alone.
  pub handed_alone : (k : ℕ) (a b : Board F slots) (edges : ℕ) → NoneDue (a.time + k) (view states a).pending → Arrives states f k edges a b → view states b ≡ hand f (later f k (view states a))
  handed_alone k a b edges none arrived = ap (λ c. c.board) (sym (arrived.same 0) ∙ arrival_none f k (view states a) 0 none)

  -- A run that has no tick left has let all of them pass.
  pub ran_out : (n left handings edges : ℕ) (a b : Board F slots) → left ≡ 0 → handings ≤ n → Progress states f (ticking f n) (ticking f left) handings edges a b → Runs states f n edges a b
  ran_out n left handings edges a b none most passed = record {
    same = λ e. passed.same e ∙ tick_none f left (counted f (view states b) (e + edges)) none;
    few = omega (arith, passed.few);
    nodes = passed.nodes;
  }

  -- A jump after which the levels are the same needs no handing.
  pub jumped_quietly : (k : ℕ) (a b : Board F slots) → Settled f (view states a) → levels f (later f k (view states a)) ≡ levels f (view states a)
      → view states b ≡ later f k (view states a) → Kept a.queue b.queue → Jumps states f k 0 a b
  jumped_quietly k a b settled same is kept = record {
    same = λ e.
        ap (carry_out f (view states a).pending) (handing_settled f (later f k (view states a)) e (settled_later f k (view states a) settled same))
        ∙ ap₂ (λ x n. carry_out f x.pending (counted f x n)) (sym is) (sym (add-zero e));
    few = omega (arith, ap (λ x. length x.pending) is);
    nodes = kept;
  }

  -- Ticks on which no level changes and no write is due pass in one jump.
  pub passed_quietly : (n : ℕ) (a b : Board F slots) → Settled f (view states a) → Quiet f n (view states a) → Idle f n (view states a)
      → view states b ≡ later f n (view states a) → b.queue ≡ a.queue → Runs states f n 0 a b
  passed_quietly n a b settled quiet idle is queue = record {
    same = λ e. jump f n (view states a) e settled quiet idle ∙ ap₂ (counted f) (sym is) (sym (add-zero e));
    few = omega (arith, ap (λ x. length x.pending) is);
    nodes = kept_same a.queue b.queue queue;
  }

-- A board with its slots in other states, at another time.
abbrev pub moved_to : {S0 S1 S2 S3 : Type 0} → States S0 S1 S2 S3 → ℕ → rules.Board S0 S1 S2 S3 → rules.Board S0 S1 S2 S3
moved_to s time b =
    record { time = time; slot_0 = s.slot_0; slot_1 = s.slot_1; slot_2 = s.slot_2; slot_3 = s.slot_3; handed = b.handed; pair = b.pair; pending = b.pending; nodes = b.nodes }

-- Between its calls a board is settled.
pub settled : {F : Type 0} {slots : Ghosts F} (b : Board F slots) → Settled slots.fitting (view slots.states b)
settled b = record {
  handed = b.handed_over;
  driven = ap (λ levels. drive_lines (on_line lines levels) b.ports.pair) (sym b.handed_over) ∙ b.driven;
}
