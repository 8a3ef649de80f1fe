-- A run, record by record.
use Rattle.std.proofs.Common.{◌≡◌, ℕ, zero, suc, ◌+◌, ◌-◌, ◌<◌, ◌≤◌, Bool, true, false, ltb, List, [], ◌∷◌, ◌++◌, length, take, drop, Ok, Err, None, Some, Result, sym, refl, ap, ◌∙◌, subst, ap₂, inl, inr, append_assoc, arith, length-drop, length-take}
use Rattle.std.proofs.lemmas.List.{drop_all}
use Rattle.std.proofs.lemmas.Bool.{lt-ltb, le-ltb, cases_lt, false≢true}
use Rattle.std.proofs.lemmas.Result.{err_from_is_err_and}
use Rattle.std.specs.Result.{MatchResult, IsErrAnd}
use Rattle.rules.specs.Trace.{Record, Performed, Next, at_end, fault, got, next, Outcome, ended, run_from, run, refusal_line, count_line}
use Rattle.rules.specs.declared.refusal.Refusal.{Refusal}
use Rattle.rules.specs.declared.refusal.Refusal.TheVariants.{NotATrace, OutputFull}
use Rattle.lines.specs.declared.output.Output.{Output}
use Rattle.records.specs.declared.reader.Reader.{Reader}
use Rattle.trace.specs.Performing.{performed}
use Rattle.lines.specs.Printing.{Printed, bytes_of, room_of, with_line}
use Rattle.lines.specs.declared.output.Refused.{Refused}
use Rattle.records.specs.declared.record.Record as code
use Rattle.records.specs.Reading.{whole, left, said, moved, well_started, GivesNext}
use Rattle.records.specs.Records.{meant}
use Rattle.trace.specs.Running.{last_line, RunsTo}
use Rattle.records.proofs.Reading.{next_end, nothing_left}
use Rattle.lines.proofs.Printing.{printed_then, printed_none, printed_as, printed_to, length_with_line, place_after_is}

ap₃ : {A B C D : Type 0} (f : A → B → C → D) {a a' : A} {b b' : B} {c c' : C} → a ≡ a' → b ≡ b' → c ≡ c' → f a b c ≡ f a' b' c'
ap₃ f {a} {a'} {b} {b'} {c} {c'} p q r = ap₂ (λ x y. f x y c) p q ∙ ap (λ z. f a' b' z) r

pub next_nil : next [] ≡ at_end
unfolding next
next_nil = refl

-- a record, and also a fault, stands within the trace
pub stands_within : {r r' : Reader} (a : Result code.Record Refusal) → GivesNext r (Some a) r' → r.place < length (whole r)
stands_within {r} a g =
    elim (cases_lt r.place (length (whole r))) [
      | inl h ↦ h
      | inr h ↦ absurd (no_end a _ _ _ g.next (next_end (whole r) r.place h))
    ]
  where
    no_end : (b : Result code.Record Refusal) (len : ℕ) (rest ys : List ℕ) → said (Some b) len rest ≡ next ys → next ys ≡ at_end → ⊥
    no_end (Ok x) len rest ys n e = (let z : ◌≡◌ {A = ℕ} 0 1 = cc in omega arith)
    no_end (Err f) len rest ys n e = (let z : ◌≡◌ {A = ℕ} 0 1 = cc in omega arith)

module _ {r r' : Reader} {x : code.Record} (g : GivesNext r (Some (Ok x)) r') where
  -- a record moves the place
  pub moves_on : r'.place ≡ r.place + 2 + (r'.place - r.place - 2)
  moves_on = g.place ∙ ap (λ (k : Next). moved k r.place) (sym g.next)

  -- so that less is left
  pub less_left : length (whole r') - r'.place < length (whole r) - r.place
  less_left = omega (arith, moves_on, stands_within (Ok x) g, ap length g.same)

room_after : (o o' : Output) (line : List ℕ) → Printed o line o' → room_of o' ≡ room_of o - length line
room_after o o' line p = omega (arith, ap length p.bytes, length_with_line (bytes_of o) o.place line, p.place, place_after_is (bytes_of o) o.place line)

-- a refusal, with its place beside it
abbrev pub placed : ℕ → Result code.Record Refusal → Result code.Record Refused
placed place (Ok x) = Ok x
placed place (Err e) = Err (record { refusal = e; place = place })

pub placed_is : (place : ℕ) (a : Result code.Record Refusal) (b : Result code.Record Refused) (Q : Refusal → Refused → Type 0) → MatchResult a (λ x. b ≡ Ok x) (λ e. IsErrAnd b (Q e)) → ((e : Refusal) (f : Refused) → Q e f → f ≡ record { refusal = e; place = place }) → b ≡ placed place a
placed_is place (Ok x) b Q h q = h
placed_is place (Err e) (Ok x) Q h q = absurd h
placed_is place (Err e) (Err f) Q h q = ap (λ (r : Refused). Err r) (q e f h)

pub placed_ok : (place : ℕ) (x : code.Record) (a : Result code.Record Refusal) → placed place a ≡ Ok x → a ≡ Ok x
placed_ok place x (Ok y) e = cc
placed_ok place x (Err r) e = (let z : ◌≡◌ {A = ℕ} 0 1 = cc in absurd (omega arith))

-- a line, and then the rest of a run
abbrev behind : {S : Type 0} → List ℕ → Outcome S → Outcome S
behind line later = record { lines = line ++ later.lines; board = later.board }

behind_then : {S : Type 0} (xs ys : List ℕ) (later : Outcome S) → behind (xs ++ ys) later ≡ behind xs (behind ys later)
behind_then {S} xs ys later = ap (λ (zs : List ℕ). record { lines = zs; board = later.board }) (append_assoc xs ys later.lines)

module _ {S : Type 0} (perform : Record → ℕ → S → Performed S) where
  -- a turn of the run, by the two things that it looks at
  abbrev pub turn : ℕ → ℕ → ℕ → ℕ → S → Bool → Next → Outcome S
  turn fuel room place count s b n =
      elim b [
        | true ↦ ended (refusal_line OutputFull place) s
        | false ↦
            elim n [
              | at_end ↦ ended (count_line count) s
              | fault r ↦ ended (refusal_line r place) s
              | got r len rest ↦
                  (let p = perform r place s in
                  behind p.line (run_from perform fuel (room - length p.line) (place + 2 + len) (count + 1) p.board rest))
            ]
      ]

  -- what a run comes to where it stops, and where a record is carried out
  module _ (room place count : ℕ) (s : S) where
    pub turned : (fuel x : ℕ) (xs : List ℕ) (b : Bool) (n : Next) → ltb room 100 ≡ b → next (x ∷ xs) ≡ n → run_from perform (suc fuel) room place count s (x ∷ xs) ≡ turn fuel room place count s b n
    unfolding run_from
    turned fuel x xs b n e f = ap₂ (turn fuel room place count s) e f

    run_full : (fuel : ℕ) (ys : List ℕ) → length ys ≤ fuel → 0 < length ys → room < 100 → run_from perform fuel room place count s ys ≡ ended (refusal_line OutputFull place) s
    run_full fuel [] enough h l = absurd (omega arith)
    run_full zero (x ∷ xs) enough h l = absurd (omega arith)
    run_full (suc fuel) (x ∷ xs) enough h l = turned fuel x xs true (next (x ∷ xs)) (lt-ltb room 100 l) refl

    run_end : (fuel : ℕ) (ys : List ℕ) → length ys ≡ 0 → run_from perform fuel room place count s ys ≡ ended (count_line count) s
    unfolding run_from
    run_end fuel [] e = refl
    run_end fuel (x ∷ xs) e = absurd (omega arith)

    run_fault : (fuel : ℕ) (ys : List ℕ) (r : Refusal) → length ys ≤ fuel → 100 ≤ room → fault r ≡ next ys → run_from perform fuel room place count s ys ≡ ended (refusal_line r place) s
    run_fault fuel [] r enough h e = (let z : ◌≡◌ {A = ℕ} 0 1 = cc (next_nil) in absurd (omega arith))
    run_fault zero (x ∷ xs) r enough h e = absurd (omega arith)
    run_fault (suc fuel) (x ∷ xs) r enough h e = turned fuel x xs false (fault r) (le-ltb room 100 h) (sym e)

    run_got : (fuel : ℕ) (ys : List ℕ) (r : Record) (len : ℕ) (rest : List ℕ) (line : List ℕ) (s' : S) → length ys ≤ fuel → 100 ≤ room → got r len rest ≡ next ys → perform r place s ≡ performed line s' → (f : ℕ) × (fuel ≡ suc f) × (run_from perform fuel room place count s ys ≡ behind line (run_from perform f (room - length line) (place + 2 + len) (count + 1) s' rest))
    run_got fuel [] r len rest line s' enough h e d = (let z : ◌≡◌ {A = ℕ} 0 1 = cc (next_nil) in absurd (omega arith))
    run_got zero (x ∷ xs) r len rest line s' enough h e d = absurd (omega arith)
    run_got (suc fuel) (x ∷ xs) r len rest line s' enough h e d =
        (fuel, refl, turned fuel x xs false (got r len rest) (le-ltb room 100 h) (sym e) ∙ ap (λ (p : Performed S). behind p.line (run_from perform fuel (room - length p.line) (place + 2 + len) (count + 1) p.board rest)) d)

  -- A run on the way: `done` is printed since `o₀`, and with what is still to come it makes up `all`.
  pub record SoFar (o₀ : Output) (all : Outcome S) (o : Output) (r : Reader) (count : ℕ) (s : S) : Type 0 where
    pub fuel : ℕ
    pub done : List ℕ
    pub enough : length (left r) ≤ fuel
    pub printed : Printed o₀ done o
    pub run : behind done (run_from perform fuel (room_of o) r.place count s (left r)) ≡ all
    pub counted : count + count ≤ r.place

  pub at_start : (o : Output) (r : Reader) (s : S) → SoFar o (run_from perform (length (left r)) (room_of o) r.place 0 s (left r)) o r 0 s
  at_start o r s = record { fuel = length (left r); done = []; enough = omega arith; printed = printed_none o; run = refl; counted = omega arith }

  module _ {o₀ : Output} {all : Outcome S} {o : Output} {r : Reader} {count : ℕ} {s : S} (h : SoFar o₀ all o r count s) where
    -- the end of a run: its last line is still to come
    ends : {answer : Result ℕ Refused} → run_from perform h.fuel (room_of o) r.place count s (left r) ≡ ended (last_line answer) s → RunsTo o₀ all answer o s
    ends {answer} e =
        (let is : behind h.done (ended (last_line answer) s) ≡ all = ap (behind h.done) (sym e) ∙ h.run in
        record { lines = h.done; printed = h.printed; whole = ap (λ (x : Outcome S). x.lines) is; board = ap (λ (x : Outcome S). x.board) is })

    left_some : r.place < length (whole r) → 0 < length (left r)
    left_some l = omega (arith, length-drop r.place (whole r))

    pub at_full : {r' : Reader} {place : ℕ} (a : Result code.Record Refusal) → place ≡ r.place → room_of o < 100 → GivesNext r (Some a) r' → RunsTo o₀ all (Err (record { refusal = OutputFull; place = place })) o s
    at_full a at short g = ends (run_full (room_of o) r.place count s h.fuel (left r) h.enough (left_some (stands_within a g)) short ∙ ap (λ (n : ℕ). ended (refusal_line OutputFull n) s) (sym at))

    pub at_last : {r' : Reader} → GivesNext r None r' → RunsTo o₀ all (Ok count) o s
    at_last g = ends (run_end (room_of o) r.place count s h.fuel (left r) (nothing_left (left r) g.next))

    pub at_fault : {r' : Reader} {answer : Result ℕ Refused} {f : Refused} (place : ℕ) (a : Result code.Record Refusal) → place ≡ r.place → 100 ≤ room_of o → GivesNext r (Some a) r' → placed place a ≡ Err f → IsErrAnd answer (λ y. y ≡ f) → RunsTo o₀ all answer o s
    at_fault place (Ok x) at wide g e is = (let z : ◌≡◌ {A = ℕ} 0 1 = cc in absurd (omega arith))
    at_fault {r'} {answer} {f} place (Err refusal) at wide g e is =
        (let (y, was, same) = err_from_is_err_and answer is in
        let f_is : f ≡ record { refusal = refusal; place = place } = cc in
        let ran : RunsTo o₀ all (Err (record { refusal = refusal; place = place })) o s = ends (run_fault (room_of o) r.place count s h.fuel (left r) refusal h.enough wide g.next ∙ ap (λ (n : ℕ). ended (refusal_line refusal n) s) (sym at)) in
        subst (λ (x : Result ℕ Refused). RunsTo o₀ all x o s) (sym (was ∙ ap (λ (z : Refused). Err z) (same ∙ f_is))) ran)

    -- a record carried out, and its line printed
    pub at_record : {o' : Output} {r' : Reader} {s' : S} {x : code.Record} {line : List ℕ} {place : ℕ} → place ≡ r.place → 100 ≤ room_of o → GivesNext r (Some (Ok x)) r' → perform (meant x) place s ≡ performed line s' → Printed o line o' → SoFar o₀ all o' r' (count + 1) s'
    at_record {o'} {r'} {s'} {x} {line} at wide g d p =
        (let len : ℕ = r'.place - r.place - 2 in
        let moves : r'.place ≡ r.place + 2 + len = moves_on g in
        let (f, falls, step) = run_got (room_of o) r.place count s h.fuel (left r) (meant x) len (left r') line s' h.enough wide g.next (ap (λ (n : ℕ). perform (meant x) n s) (sym at) ∙ d) in
        let later : ℕ → ℕ → Outcome S = λ room place. run_from perform f room place (count + 1) s' (left r') in
        record {
          fuel = f;
          done = h.done ++ line;
          enough = omega (arith, moves, falls, ap length g.same, length-drop r'.place (whole r'), length-drop r.place (whole r));
          printed = printed_then h.printed p;
          run =
              behind_then h.done line (later (room_of o') r'.place)
              ∙ ap (behind h.done) (ap₂ (λ (m k : ℕ). behind line (later m k)) (room_after o o' line p) moves ∙ sym step)
              ∙ h.run;
          counted = omega (arith, moves, h.counted);
        })

-- no line but the last
pub refused_at_once : {S : Type 0} {o p : Output} {all : Outcome S} {refusal : Refusal} {answer : Result ℕ Refused} {s s' : S} → ended (refusal_line refusal 0) s ≡ all → answer ≡ Err (record { refusal = refusal; place = 0 }) → p ≡ o → s' ≡ s → RunsTo o all answer p s'
refused_at_once {S} {o} {p} e a h k = record { lines = []; printed = printed_to (sym h) (printed_none o); whole = ap last_line a ∙ ap (λ (x : Outcome S). x.lines) e; board = k ∙ ap (λ (x : Outcome S). x.board) e }

pub runs_as : {S : Type 0} {o p q : Output} {all all' : Outcome S} {answer answer' : Result ℕ Refused} {s s' : S} → all ≡ all' → answer' ≡ answer → q ≡ p → s' ≡ s → RunsTo o all answer p s → RunsTo o all' answer' q s'
runs_as {S} e a h k r = record { lines = r.lines; printed = printed_to (sym h) r.printed; whole = ap (λ (x : Result ℕ Refused). r.lines ++ last_line x) a ∙ r.whole ∙ ap (λ (x : Outcome S). x.lines) e; board = k ∙ r.board ∙ ap (λ (x : Outcome S). x.board) e }

-- the last line behind the others
pub whole_run : {S : Type 0} {o p q : Output} {all : Outcome S} {line : List ℕ} {answer : Result ℕ Refused} {s : S} → RunsTo o all answer p s → last_line answer ≡ line → Printed p line q → Printed o all.lines q
whole_run {line = line} h e p = printed_as (ap (λ (zs : List ℕ). h.lines ++ zs) (sym e) ∙ h.whole) (printed_then h.printed p)

-- the start of a run
module _ {S : Type 0} (perform : Record → ℕ → S → Performed S) (room : ℕ) (s : S) where
  abbrev started : List ℕ → Bool → Outcome S
  started bytes b =
      elim b [
        | true ↦ run_from perform (length bytes) room 1 0 s bytes
        | false ↦ ended (refusal_line NotATrace 0) s
      ]

  pub run_refused : (trace : List ℕ) → well_started trace ≡ false → run perform room s trace ≡ ended (refusal_line NotATrace 0) s
  unfolding run
  run_refused [] e = refl
  run_refused (v ∷ bytes) e = ap (started bytes) e

  pub run_started : (trace : List ℕ) → well_started trace ≡ true → run perform room s trace ≡ run_from perform (length (drop 1 trace)) room 1 0 s (drop 1 trace)
  unfolding run
  run_started [] e = absurd (false≢true e)
  run_started (v ∷ bytes) e = ap (started bytes) e

  pub started_as : (o : Output) (out : List ℕ) (r : Reader) (trace : List ℕ) → bytes_of o ≡ out → o.place ≡ 0 → room ≡ length out → well_started trace ≡ true → whole r ≡ trace → r.place ≡ 1 → run_from perform (length (left r)) (room_of o) r.place 0 s (left r) ≡ run perform room s trace
  started_as o out r trace bytes place size start same first =
      (let rest : left r ≡ drop 1 trace = ap₂ drop first same in
      let wide : room_of o ≡ room = omega (arith, ap length bytes) in
      ap₃ (λ (n m : ℕ) (ys : List ℕ). run_from perform (length ys) n m 0 s ys) wide first rest ∙ sym (run_started trace start))

-- a whole buffer
module _ (o q : Output) (out all : List ℕ) (bytes : bytes_of o ≡ out) (place : o.place ≡ 0) (p : Printed o all q) where
  pub count_of : q.place ≡ length (take (length out) all)
  count_of = omega (arith, p.place, place_after_is (bytes_of o) o.place all, ap length bytes, length-take (length out) all)

  pub lines_of : bytes_of q ≡ take (length out) all ++ drop q.place out
  lines_of = p.bytes ∙ ap₂ (λ (b : List ℕ) (n : ℕ). with_line b n all) bytes place ∙ ap₂ (λ (n : ℕ) (zs : List ℕ). take n all ++ zs) (omega arith) behind
    where
      behind : drop (0 + length all) out ≡ drop q.place out
      behind =
          elim (cases_lt (length out) (length all)) [
            | inl h ↦ (let far : length out ≤ 0 + length all = omega arith in let far' : length out ≤ q.place = omega (arith, count_of, length-take (length out) all) in drop_all (0 + length all) out far ∙ sym (drop_all q.place out far'))
            | inr h ↦ ap (λ (n : ℕ). drop n out) (omega (arith, count_of, length-take (length out) all))
          ]

pub joins : {x z : List ℕ} (y : List ℕ) → x ≡ y → y ≡ z → x ≡ z
joins y e f = e ∙ f
