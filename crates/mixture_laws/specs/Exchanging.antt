-- A device may be exchanged for one that shows the same levels.
use Rattle.std.specs.Prelude.{◌≡◌, ℕ, min, ◌∷◌, map}
use Rattle.std.proofs.Common.{refl, sym, ap, ◌∙◌, subst}
use Rattle.rules.specs.Device.{Meaning, Lawful}
use Rattle.rules.specs.I8259.{standing_pair}
use Rattle.rules.specs.Board.{Fitting, lines, on_line, most_nodes}
use Rattle.rules.specs.Mixtures.{Mixture, Ran, SameAsTicking, start, run, handings, shown, level_of, MadeAlike, Alike, Same, Any, EqualBut, ExchangingIn, ExchangingSlot0, ExchangingSlot1, ExchangingSlot2, ExchangingSlot3}
use Rattle.mixture_laws.specs.Decoding.{AllLawful}
use Rattle.mixture_laws.specs.Lockstep.{Tie, Ties, levels_alike, heads, tails, run_alike}

-- The two ties of a slot that there are.
tie_same : {S : Type 0} (m : Meaning S) (here : Type 0) → Tie m m Same here
tie_same m here = record {
  ticks = λ s t e. ap m.tick e;
  reads = λ s t o e. ap (λ r. m.after_read r o) e;
  writes = λ s t o v e. ap (λ r. m.after_write r o v) e;
  levels = λ other s t e. ap m.level e;
  bytes = λ other s t o e. ap (λ r. m.byte_read r o) e;
}

tie_any : {S T : Type 0} (m : Meaning S) (n : Meaning T) (here : Type 0) → here → Tie m n Any here
tie_any m n here is = record {
  ticks = λ s t r. tt;
  reads = λ s t o r. tt;
  writes = λ s t o v r. tt;
  levels = λ other s t r. absurd (other is);
  bytes = λ other s t o r. absurd (other is);
}

module _ {A B C D X Y Z W : Type 0} (f : Fitting A B C D) (g : Fitting X Y Z W) (slot : ℕ) (R0 : A → X → Type 0) (R1 : B → Y → Type 0) (R2 : C → Z → Type 0) (R3 : D → W → Type 0) (ties : Ties f g slot R0 R1 R2 R3) (laws : AllLawful f) (laws' : AllLawful g) where
  -- Boards that are made alike and show the same level in the slot at the start are alike.
  starts_alike : (m : Mixture A B C D) (o : Mixture X Y Z W) → MadeAlike R0 R1 R2 R3 m o → level_of slot (start f m).handed ≡ level_of slot (start g o).handed → Alike R0 R1 R2 R3 (start f m) (start g o)
  starts_alike m o made same =
      let handed : (start f m).handed ≡ (start g o).handed =
      levels_alike f g slot R0 R1 R2 R3 ties laws laws' (start f m) (start g o) made.at_0 made.at_1 made.at_2 made.at_3 same in
      record {
        at_0 = made.at_0;
        at_1 = made.at_1;
        at_2 = made.at_2;
        at_3 = made.at_3;
        time = refl;
        handed = handed;
        pair = ap (λ vs. standing_pair (on_line lines vs)) handed;
        pending = refl;
        nodes = ap (λ n. min n most_nodes) made.nodes;
      }

  -- Exchanging a device, of two mixtures that were each the same as ticking.
  pub exchanging : (m : Mixture A B C D) (o : Mixture X Y Z W) → SameAsTicking f m → SameAsTicking g o → ExchangingIn slot R0 R1 R2 R3 f g m o
  exchanging m o as_m as_o made calls levels =
      let b = start f m in
      let x = start g o in
      let there : record { answers = o.answers; board = o.end } ≡ run g m.calls x = as_o ∙ ap (λ cs. run g cs x) (sym calls) in
      let along : shown f slot m ≡ level_of slot x.handed ∷ map (level_of slot) (handings g m.calls x) =
      levels ∙ ap (λ cs. level_of slot x.handed ∷ map (level_of slot) (handings g cs x)) (sym calls) in
      let at_start = heads (level_of slot b.handed) (level_of slot x.handed) _ _ along in
      let later = tails (level_of slot b.handed) (level_of slot x.handed) _ _ along in
      let both = run_alike f g slot R0 R1 R2 R3 ties laws laws' m.calls b x (starts_alike m o made at_start) later in
      let G : Ran A B C D → Ran X Y Z W → Type 0 = λ r s. EqualBut slot m.calls r.answers s.answers × Alike R0 R1 R2 R3 r.board s.board in
      subst (λ r. G r (record { answers = o.answers; board = o.end })) (sym as_m) (subst (G (run f m.calls b)) (sym there) both)

-- In each of the four slots: a fitting with a device of another lawful kind there.
module _ {A B C D X : Type 0} (f : Fitting A B C D) (laws : AllLawful f) (other : Meaning X) (law : Lawful other) where
  abbrev pub with_0 : Fitting X B C D
  with_0 = record { kind_0 = other; kind_1 = f.kind_1; kind_2 = f.kind_2; kind_3 = f.kind_3 }

  pub exchanging_0 : (m : Mixture A B C D) (o : Mixture X B C D) → SameAsTicking f m → SameAsTicking with_0 o → ExchangingSlot0 f with_0 m o
  exchanging_0 = exchanging f with_0 0 Any Same Same Same (record { tie_0 = tie_any f.kind_0 other (0 ≡ 0) refl; tie_1 = tie_same f.kind_1 (0 ≡ 1); tie_2 = tie_same f.kind_2 (0 ≡ 2); tie_3 = tie_same f.kind_3 (0 ≡ 3) }) laws (record { lawful_0 = law; lawful_1 = laws.lawful_1; lawful_2 = laws.lawful_2; lawful_3 = laws.lawful_3 })

  abbrev pub with_1 : Fitting A X C D
  with_1 = record { kind_0 = f.kind_0; kind_1 = other; kind_2 = f.kind_2; kind_3 = f.kind_3 }

  pub exchanging_1 : (m : Mixture A B C D) (o : Mixture A X C D) → SameAsTicking f m → SameAsTicking with_1 o → ExchangingSlot1 f with_1 m o
  exchanging_1 = exchanging f with_1 1 Same Any Same Same (record { tie_0 = tie_same f.kind_0 (1 ≡ 0); tie_1 = tie_any f.kind_1 other (1 ≡ 1) refl; tie_2 = tie_same f.kind_2 (1 ≡ 2); tie_3 = tie_same f.kind_3 (1 ≡ 3) }) laws (record { lawful_0 = laws.lawful_0; lawful_1 = law; lawful_2 = laws.lawful_2; lawful_3 = laws.lawful_3 })

  abbrev pub with_2 : Fitting A B X D
  with_2 = record { kind_0 = f.kind_0; kind_1 = f.kind_1; kind_2 = other; kind_3 = f.kind_3 }

  pub exchanging_2 : (m : Mixture A B C D) (o : Mixture A B X D) → SameAsTicking f m → SameAsTicking with_2 o → ExchangingSlot2 f with_2 m o
  exchanging_2 = exchanging f with_2 2 Same Same Any Same (record { tie_0 = tie_same f.kind_0 (2 ≡ 0); tie_1 = tie_same f.kind_1 (2 ≡ 1); tie_2 = tie_any f.kind_2 other (2 ≡ 2) refl; tie_3 = tie_same f.kind_3 (2 ≡ 3) }) laws (record { lawful_0 = laws.lawful_0; lawful_1 = laws.lawful_1; lawful_2 = law; lawful_3 = laws.lawful_3 })

  abbrev pub with_3 : Fitting A B C X
  with_3 = record { kind_0 = f.kind_0; kind_1 = f.kind_1; kind_2 = f.kind_2; kind_3 = other }

  pub exchanging_3 : (m : Mixture A B C D) (o : Mixture A B C X) → SameAsTicking f m → SameAsTicking with_3 o → ExchangingSlot3 f with_3 m o
  exchanging_3 = exchanging f with_3 3 Same Same Same Any (record { tie_0 = tie_same f.kind_0 (3 ≡ 0); tie_1 = tie_same f.kind_1 (3 ≡ 1); tie_2 = tie_same f.kind_2 (3 ≡ 2); tie_3 = tie_any f.kind_3 other (3 ≡ 3) refl }) laws (record { lawful_0 = laws.lawful_0; lawful_1 = laws.lawful_1; lawful_2 = laws.lawful_2; lawful_3 = law })
