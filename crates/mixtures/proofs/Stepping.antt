-- A run, step by step.
use Rattle.std.proofs.Common.{◌≡◌, ℕ, zero, suc, ◌+◌, ◌<◌, ◌≤◌, List, [], ◌∷◌, ◌++◌, length, take, drop, set, get_or, refl, sym, ◌∙◌, ap, arith}
use Rattle.std.proofs.lemmas.List.{take_more_set, drop-set-lt, drop_more, take_all, drop_all, append-nil}
use Rattle.rules.specs.Board.{Board, Fitting, call}
use Rattle.rules.specs.Mixtures.{Ran, run}
use Rattle.rules.specs.declared.calls.Answer.{Answer}
use Rattle.rules.specs.declared.calls.Call.{Call}
use Rattle.slots.specs.declared.fitted.Slots.{Ghosts}
use Rattle.board.specs.View.{view, KeepsNodes}
use Rattle.board.specs.declared.board.Board as code
use Rattle.mixture_laws.specs.Cutting.{preceded}
use Rattle.mixtures.specs.declared.steps.Step.{Step}
use Rattle.mixtures.specs.Runs.{calls_of, answers_of}

-- Before step i of a run: what came of the whole is what was answered so far, and then what comes of the calls from there on.
pub record Partway {F : Type 0} (slots : Ghosts F) (i : ℕ) (before steps : List Step) (old now : code.Board F slots) : Type 0 where
  pub same : run slots.fitting (calls_of before) (view slots.states old) ≡ preceded (answers_of (take i steps)) (run slots.fitting (calls_of (drop i steps)) (view slots.states now))
  pub calls : calls_of steps ≡ calls_of before
  pub kept : KeepsNodes old now

abbrev pub answered_by : Step → Answer → Step
answered_by s a = record { call = s.call; answer = a }

-- An answer changes no call.
pub calls_set : (s : List Step) (i : ℕ) (d : Step) (a : Answer) → i < length s → calls_of (set s i (answered_by (get_or s i d) a)) ≡ calls_of s
calls_set [] i d a h = refl
calls_set (x ∷ s) zero d a h = refl
calls_set (x ∷ s) (suc i) d a h = ap (λ r. x.call ∷ r) (calls_set s i d a (omega arith))

answers_append : (s : List Step) (x : Step) → answers_of (s ++ x ∷ []) ≡ answers_of s ++ x.answer ∷ []
answers_append [] x = refl
answers_append (y ∷ s) x = ap (λ r. y.answer ∷ r) (answers_append s x)

preceded_more : {A B C D : Type 0} (ps : List Answer) (q : Answer) (r : Ran A B C D) → preceded ps (preceded (q ∷ []) r) ≡ preceded (ps ++ q ∷ []) r
preceded_more [] q r = refl
preceded_more (p ∷ ps) q r = ap (preceded (p ∷ [])) (preceded_more ps q r)

module _ {A B C D : Type 0} (f : Fitting A B C D) where
  run_step : (c : Call) (cs : List Call) (b next : Board A B C D) (q : Answer) → record { answer = q; board = next } ≡ call f c b → run f (c ∷ cs) b ≡ preceded (q ∷ []) (run f cs next)
  unfolding run
  run_step c cs b next q e = ap (λ t. preceded (t.answer ∷ []) (run f cs t.board)) (sym e)

  -- One step more.
  pub stepped : (s : List Step) (i : ℕ) (d : Step) (a : Answer) (b next : Board A B C D) → i < length s → record { answer = a; board = next } ≡ call f (get_or s i d).call b
      → preceded (answers_of (take i s)) (run f (calls_of (drop i s)) b)
      ≡ preceded (answers_of (take (i + 1) (set s i (answered_by (get_or s i d) a)))) (run f (calls_of (drop (i + 1) (set s i (answered_by (get_or s i d) a)))) next)
  stepped s i d a b next h e =
      let x = answered_by (get_or s i d) a in
      let here : calls_of (drop i s) ≡ (get_or s i d).call ∷ calls_of (drop (i + 1) s) = ap calls_of (drop_more s i d h) in
      let behind : drop (i + 1) (set s i x) ≡ drop (i + 1) s = drop-set-lt (i + 1) s i x (omega arith) in
      let before : answers_of (take (i + 1) (set s i x)) ≡ answers_of (take i s) ++ a ∷ [] = ap answers_of (take_more_set s i x h) ∙ answers_append (take i s) x in
      rw (here, behind, before)
      (ap (preceded (answers_of (take i s))) (run_step (get_or s i d).call (calls_of (drop (i + 1) s)) b next a e)
      ∙ preceded_more (answers_of (take i s)) a (run f (calls_of (drop (i + 1) s)) next))

  run_none : (b : Board A B C D) → run f [] b ≡ record { answers = []; board = b }
  unfolding run
  run_none b = refl

  -- At the end nothing is left.
  pub finished : (s : List Step) (i : ℕ) (b : Board A B C D) → length s ≤ i → preceded (answers_of (take i s)) (run f (calls_of (drop i s)) b) ≡ record { answers = answers_of s; board = b }
  finished s i b e =
      let all : take i s ≡ s = take_all i s e in
      let none : drop i s ≡ [] = drop_all i s e in
      rw (all, none) (ap (preceded (answers_of s)) (run_none b) ∙ ap (λ qs. record { answers = qs; board = b }) (append-nil (answers_of s)))
