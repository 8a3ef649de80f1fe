-- Each slot may be taken as eight ports wide: past the width of its device an access does what it does at an open bus.
use Rattle.std.specs.Prelude.{◌≡◌, ℕ, ◌+◌, ◌-◌, ◌<◌, ◌≤◌, ◌&&◌, Bool, true, false, cond}
use Rattle.std.proofs.Common.{refl, sym, ap, ◌∙◌, inl, inr, arith, le-ltb, lt-ltb, le-leb, leb, ltb}
use Rattle.std.proofs.lemmas.Bool.{cases_lt, lt-leb, and_from}
use Rattle.rules.specs.Device.{Lawful}
use Rattle.rules.specs.Board.{Board, Fitting, Target, master, slave, at_slot_0, at_slot_1, at_slot_2, at_slot_3, open_bus, target, matches, first_port_0, first_port_1, first_port_2, first_port_3, byte_at, after_read_at, after_write_at, with_slots}
use Rattle.rules.specs.Mixtures.{is_port_of}

-- A fitting of four lawful kinds of device.
pub record AllLawful {A B C D : Type 0} (f : Fitting A B C D) : Type 0 where
  pub lawful_0 : Lawful f.kind_0
  pub lawful_1 : Lawful f.kind_1
  pub lawful_2 : Lawful f.kind_2
  pub lawful_3 : Lawful f.kind_3

-- What a port reaches where each slot is eight ports wide.
abbrev pub wide_target : ℕ → Target
wide_target port =
    cond (matches 0x20 2 port) (master (port - 0x20))
    (cond (matches 0xa0 2 port) (slave (port - 0xa0))
    (cond (is_port_of 0 port) (at_slot_0 (port - first_port_0))
    (cond (is_port_of 1 port) (at_slot_1 (port - first_port_1))
    (cond (is_port_of 2 port) (at_slot_2 (port - first_port_2))
    (cond (is_port_of 3 port) (at_slot_3 (port - first_port_3)) open_bus)))))

inside : (from n port : ℕ) → from ≤ port → port - from < n → matches from n port ≡ true
inside from n port low high = and_from (leb from port) (ltb (port - from) n) (le-leb from port low) (lt-ltb (port - from) n high)

and_false : (x : Bool) → (x && false) ≡ false
and_false true = refl
and_false false = refl

below : (from n port : ℕ) → port < from → matches from n port ≡ false
below from n port h = ap (λ v. v && ltb (port - from) n) (lt-leb from port h)

past : (from n port : ℕ) → n ≤ port - from → matches from n port ≡ false
past from n port h = ap (λ v. leb from port && v) (le-ltb (port - from) n h) ∙ and_false (leb from port)

module _ {A B C D : Type 0} (f : Fitting A B C D) where
  -- Two targets at which every access does the same.
  pub record SameAccess (t u : Target) : Type 0 where
    pub byte : (b : Board A B C D) → byte_at f t b ≡ byte_at f u b
    pub read : (b : Board A B C D) → after_read_at f t b ≡ after_read_at f u b
    pub write : (v : ℕ) (b : Board A B C D) → after_write_at f t v b ≡ after_write_at f u v b

  same_access : (t : Target) → SameAccess t t
  same_access t = record { byte = λ b. refl; read = λ b. refl; write = λ v b. refl }

  -- Past the width of a device its slot is like an open bus.
  past_0 : Lawful f.kind_0 → (o : ℕ) → f.kind_0.width ≤ o → SameAccess open_bus (at_slot_0 o)
  past_0 l o h = record {
    byte = λ b. sym (l.past_reads b.slot_0 o h);
    read = λ b. sym (ap (λ s. with_slots s b.slot_1 b.slot_2 b.slot_3 b) (l.past_read_keeps b.slot_0 o h));
    write = λ v b. sym (ap (λ s. with_slots s b.slot_1 b.slot_2 b.slot_3 b) (l.past_write_keeps b.slot_0 o v h));
  }

  past_1 : Lawful f.kind_1 → (o : ℕ) → f.kind_1.width ≤ o → SameAccess open_bus (at_slot_1 o)
  past_1 l o h = record {
    byte = λ b. sym (l.past_reads b.slot_1 o h);
    read = λ b. sym (ap (λ s. with_slots b.slot_0 s b.slot_2 b.slot_3 b) (l.past_read_keeps b.slot_1 o h));
    write = λ v b. sym (ap (λ s. with_slots b.slot_0 s b.slot_2 b.slot_3 b) (l.past_write_keeps b.slot_1 o v h));
  }

  past_2 : Lawful f.kind_2 → (o : ℕ) → f.kind_2.width ≤ o → SameAccess open_bus (at_slot_2 o)
  past_2 l o h = record {
    byte = λ b. sym (l.past_reads b.slot_2 o h);
    read = λ b. sym (ap (λ s. with_slots b.slot_0 b.slot_1 s b.slot_3 b) (l.past_read_keeps b.slot_2 o h));
    write = λ v b. sym (ap (λ s. with_slots b.slot_0 b.slot_1 s b.slot_3 b) (l.past_write_keeps b.slot_2 o v h));
  }

  past_3 : Lawful f.kind_3 → (o : ℕ) → f.kind_3.width ≤ o → SameAccess open_bus (at_slot_3 o)
  past_3 l o h = record {
    byte = λ b. sym (l.past_reads b.slot_3 o h);
    read = λ b. sym (ap (λ s. with_slots b.slot_0 b.slot_1 b.slot_2 s b) (l.past_read_keeps b.slot_3 o h));
    write = λ v b. sym (ap (λ s. with_slots b.slot_0 b.slot_1 b.slot_2 s b) (l.past_write_keeps b.slot_3 o v h));
  }

  -- A port that is tried against a slot, by the width of its device and as eight ports wide, and then against what comes behind it. What comes
  -- behind it in the one leaves the slot's ports alone.
  widened : (from width port : ℕ) (slot : ℕ → Target) (narrow wide : Target) → width ≤ 8 → ((o : ℕ) → width ≤ o → SameAccess open_bus (slot o))
      → (from ≤ port → port < from + 8 → narrow ≡ open_bus) → SameAccess narrow wide
      → SameAccess (cond (matches from width port) (slot (port - from)) narrow) (cond (matches from 8 port) (slot (port - from)) wide)
  widened from width port slot narrow wide few past_width apart behind =
      elim (cases_lt port from) [
        | inl low ↦ rw (below from width port low, below from 8 port low) behind
        | inr high ↦
            elim (cases_lt (port - from) width) [
              | inl near ↦ rw (inside from width port high near, inside from 8 port high (omega arith)) (same_access (slot (port - from)))
              | inr far ↦
                  elim (cases_lt (port - from) 8) [
                    | inl own ↦
                        rw (past from width port far, inside from 8 port high own, apart high (omega arith)) (past_width (port - from) far)
                    | inr out ↦ rw (past from width port far, past from 8 port out) behind
                  ]
            ]
      ]

  behind_chip : (v : Bool) (chip narrow wide : Target) → SameAccess narrow wide → SameAccess (cond v chip narrow) (cond v chip wide)
  behind_chip true chip narrow wide h = same_access chip
  behind_chip false chip narrow wide h = h

  -- So every access of a port may be taken to reach its wide target.
  pub wide_access : AllLawful f → (port : ℕ) → SameAccess (target f port) (wide_target port)
  wide_access l port =
      let few_3 : f.kind_3.width ≤ 8 = l.lawful_3.few_ports in
      let in_3 = widened first_port_3 f.kind_3.width port at_slot_3 open_bus open_bus few_3 (past_3 l.lawful_3) (λ low high. refl) (same_access open_bus) in
      let in_2 = widened first_port_2 f.kind_2.width port at_slot_2 _ _ l.lawful_2.few_ports (past_2 l.lawful_2) (λ low high. rw (past first_port_3 f.kind_3.width port (omega arith))) in_3 in
      let in_1 = widened first_port_1 f.kind_1.width port at_slot_1 _ _ l.lawful_1.few_ports (past_1 l.lawful_1)
      (λ low high. rw (below first_port_2 f.kind_2.width port (omega arith), below first_port_3 f.kind_3.width port (omega arith))) in_2 in
      let in_0 = widened first_port_0 f.kind_0.width port at_slot_0 _ _ l.lawful_0.few_ports (past_0 l.lawful_0)
      (λ low high. rw (below first_port_1 f.kind_1.width port (omega arith), below first_port_2 f.kind_2.width port (omega arith), below first_port_3 f.kind_3.width port (omega arith))) in_1 in
      behind_chip (matches 0x20 2 port) (master (port - 0x20)) _ _ (behind_chip (matches 0xa0 2 port) (slave (port - 0xa0)) _ _ in_0)
