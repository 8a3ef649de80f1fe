-- Two tick boards whose devices are related slot by slot, call by call: they stay alike as long as they show the same levels.
use Rattle.std.specs.Prelude.{◌≡◌, ℕ, zero, suc, ◌+◌, ◌-◌, ◌<◌, ◌≤◌, Bool, true, false, cond, List, [], ◌∷◌, ◌++◌, map}
use Rattle.std.proofs.Common.{refl, sym, ap, ap₂, ◌∙◌, subst, inl, inr}
use Rattle.std.proofs.lemmas.Bool.{cases_eq}
use Rattle.std.proofs.lemmas.List.{append_assoc}
use Rattle.rules.specs.I8259.{Pair, drive_lines, vector, acknowledged, requests, read_chip, write_chip}
use Rattle.rules.specs.Ascending.{insert}
use Rattle.rules.specs.Device.{Meaning}
use Rattle.rules.specs.Board.{Board, Fitting, Counted, Answered, do_queue, call, do_advance, end_of_time, levels, hand, handing, edges_between, devices_ticked, after_read, after_write, byte_read, after_read_at, after_write_at, byte_at, Target, master, slave, at_slot_0, at_slot_1, at_slot_2, at_slot_3, open_bus, matches, first_port_0, first_port_1, first_port_2, first_port_3, with_pending, with_pair, with_slots, carry_out, tick, tick_times, lines, on_line, precedes}
use Rattle.rules.specs.Mixtures.{Alike, run, EqualBut, all_compared, next, reads_from, is_port_of, level_of, if_taken, handings_of_due, handings_of_tick, handings_of_ticks, handings_of_call, handings}
use Rattle.rules.specs.declared.queued.QueuedWrite.{QueuedWrite}
use Rattle.rules.specs.declared.refusal.Refusal.TheVariants.{LongAdvance, PastEnd}
use Rattle.rules.specs.declared.calls.Answer.TheVariants.{Edges, Byte, Requested, Refused}
use Rattle.rules.specs.declared.calls.Call.{Call}
use Rattle.rules.specs.declared.calls.Call.TheVariants.{Advance, Read, Write, Queue, Acknowledge, CheckRequest}
use Rattle.board_laws.specs.Jump.{counted, carry_none, carry_due}
use Rattle.board_laws.specs.Advances.{answered, after, Within, advance_long, advance_past, advance_taken, advance_cases, queued, is_in_time, has_room}
use Rattle.board_laws.specs.Handings.{due_first, due_none}
use Rattle.mixture_laws.specs.Decoding.{AllLawful, wide_target, wide_access}

-- What a relation between the devices of a slot keeps, and, where it is not `here` that a device is exchanged, what it tells.
pub record Tie {S T : Type 0} (m : Meaning S) (n : Meaning T) (R : S → T → Type 0) (here : Type 0) : Type 0 where
  pub ticks : (s : S) (t : T) → R s t → R (m.tick s) (n.tick t)
  pub reads : (s : S) (t : T) (o : ℕ) → R s t → R (m.after_read s o) (n.after_read t o)
  pub writes : (s : S) (t : T) (o v : ℕ) → R s t → R (m.after_write s o v) (n.after_write t o v)
  pub levels : (here → ⊥) → (s : S) (t : T) → R s t → m.level s ≡ n.level t
  pub bytes : (here → ⊥) → (s : S) (t : T) (o : ℕ) → R s t → m.byte_read s o ≡ n.byte_read t o

pub record Ties {A B C D X Y Z W : Type 0} (f : Fitting A B C D) (g : Fitting X Y Z W) (slot : ℕ) (R0 : A → X → Type 0) (R1 : B → Y → Type 0) (R2 : C → Z → Type 0) (R3 : D → W → Type 0) : Type 0 where
  pub tie_0 : Tie f.kind_0 g.kind_0 R0 (slot ≡ 0)
  pub tie_1 : Tie f.kind_1 g.kind_1 R1 (slot ≡ 1)
  pub tie_2 : Tie f.kind_2 g.kind_2 R2 (slot ≡ 2)
  pub tie_3 : Tie f.kind_3 g.kind_3 R3 (slot ≡ 3)

-- A target in the slot.
abbrev IsIn : ℕ → Target → Type 0
IsIn slot (master o) = ⊥
IsIn slot (slave o) = ⊥
IsIn slot (at_slot_0 o) = slot ≡ 0
IsIn slot (at_slot_1 o) = slot ≡ 1
IsIn slot (at_slot_2 o) = slot ≡ 2
IsIn slot (at_slot_3 o) = slot ≡ 3
IsIn slot open_bus = ⊥

-- A port that none of the slot's is reaches another target.
not_in : (slot : ℕ) (v0 v1 v2 v3 v4 v5 : Bool) (o0 o1 o2 o3 o4 o5 : ℕ) → (slot ≡ 0 → v2 ≡ false) → (slot ≡ 1 → v3 ≡ false) → (slot ≡ 2 → v4 ≡ false) → (slot ≡ 3 → v5 ≡ false)
    → IsIn slot (cond v0 (master o0) (cond v1 (slave o1) (cond v2 (at_slot_0 o2) (cond v3 (at_slot_1 o3) (cond v4 (at_slot_2 o4) (cond v5 (at_slot_3 o5) open_bus)))))) → ⊥
not_in slot true v1 v2 v3 v4 v5 o0 o1 o2 o3 o4 o5 n0 n1 n2 n3 h = h
not_in slot false true v2 v3 v4 v5 o0 o1 o2 o3 o4 o5 n0 n1 n2 n3 h = h
not_in slot false false true v3 v4 v5 o0 o1 o2 o3 o4 o5 n0 n1 n2 n3 h = (let no = n0 h in cc)
not_in slot false false false true v4 v5 o0 o1 o2 o3 o4 o5 n0 n1 n2 n3 h = (let no = n1 h in cc)
not_in slot false false false false true v5 o0 o1 o2 o3 o4 o5 n0 n1 n2 n3 h = (let no = n2 h in cc)
not_in slot false false false false false true o0 o1 o2 o3 o4 o5 n0 n1 n2 n3 h = (let no = n3 h in cc)
not_in slot false false false false false false o0 o1 o2 o3 o4 o5 n0 n1 n2 n3 h = h

elsewhere : (slot port : ℕ) → is_port_of slot port ≡ false → IsIn slot (wide_target port) → ⊥
elsewhere slot port none =
    let at : (k : ℕ) → slot ≡ k → is_port_of k port ≡ false = λ k e. subst (λ s. is_port_of s port ≡ false) e none in
    not_in slot (matches 0x20 2 port) (matches 0xa0 2 port) (is_port_of 0 port) (is_port_of 1 port) (is_port_of 2 port) (is_port_of 3 port)
    (port - 0x20) (port - 0xa0) (port - first_port_0) (port - first_port_1) (port - first_port_2) (port - first_port_3) (at 0) (at 1) (at 2) (at 3)

-- Lists of levels that begin the same.
abbrev head_or : Bool → List Bool → Bool
head_or d [] = d
head_or d (v ∷ vs) = v

abbrev tail_of : List Bool → List Bool
tail_of [] = []
tail_of (v ∷ vs) = vs

pub heads : (u v : Bool) (us vs : List Bool) → u ∷ us ≡ v ∷ vs → u ≡ v
heads u v us vs e = ap (head_or u) e

pub tails : (u v : Bool) (us vs : List Bool) → u ∷ us ≡ v ∷ vs → us ≡ vs
tails u v us vs e = ap tail_of e

module _ {A B C D X Y Z W : Type 0} (f : Fitting A B C D) (g : Fitting X Y Z W) (slot : ℕ) (R0 : A → X → Type 0) (R1 : B → Y → Type 0) (R2 : C → Z → Type 0) (R3 : D → W → Type 0) (ties : Ties f g slot R0 R1 R2 R3) (laws : AllLawful f) (laws' : AllLawful g) where
  abbrev As : Board A B C D → Board X Y Z W → Type 0
  As b x = Alike R0 R1 R2 R3 b x

  -- Alike boards with something else in one place.
  with_devices : (b : Board A B C D) (x : Board X Y Z W) (a : A) (c : B) (d : C) (e : D) (s : X) (t : Y) (u : Z) (v : W) → As b x → R0 a s → R1 c t → R2 d u → R3 e v → As (with_slots a c d e b) (with_slots s t u v x)
  with_devices b x a c d e s t u v as_b r0 r1 r2 r3 =
      record { at_0 = r0; at_1 = r1; at_2 = r2; at_3 = r3; time = as_b.time; handed = as_b.handed; pair = as_b.pair; pending = as_b.pending; nodes = as_b.nodes }

  with_chips : (b : Board A B C D) (x : Board X Y Z W) (change : Pair → Pair) → As b x → As (with_pair (change b.pair) b) (with_pair (change x.pair) x)
  with_chips b x change a =
      record { at_0 = a.at_0; at_1 = a.at_1; at_2 = a.at_2; at_3 = a.at_3; time = a.time; handed = a.handed; pair = ap change a.pair; pending = a.pending; nodes = a.nodes }

  with_writes : (b : Board A B C D) (x : Board X Y Z W) (ws : List QueuedWrite) → As b x → As (with_pending ws b) (with_pending ws x)
  with_writes b x ws a =
      record { at_0 = a.at_0; at_1 = a.at_1; at_2 = a.at_2; at_3 = a.at_3; time = a.time; handed = a.handed; pair = a.pair; pending = refl; nodes = a.nodes }

  -- Accesses of one target.
  same_byte : (t : Target) (b : Board A B C D) (x : Board X Y Z W) → (IsIn slot t → ⊥) → As b x → byte_at f t b ≡ byte_at g t x
  same_byte (master o) b x other a = ap (λ p. read_chip o p.master) a.pair
  same_byte (slave o) b x other a = ap (λ p. read_chip o p.slave) a.pair
  same_byte (at_slot_0 o) b x other a = ties.tie_0.bytes other b.slot_0 x.slot_0 o a.at_0
  same_byte (at_slot_1 o) b x other a = ties.tie_1.bytes other b.slot_1 x.slot_1 o a.at_1
  same_byte (at_slot_2 o) b x other a = ties.tie_2.bytes other b.slot_2 x.slot_2 o a.at_2
  same_byte (at_slot_3 o) b x other a = ties.tie_3.bytes other b.slot_3 x.slot_3 o a.at_3
  same_byte open_bus b x other a = refl

  same_read : (t : Target) (b : Board A B C D) (x : Board X Y Z W) → As b x → As (after_read_at f t b) (after_read_at g t x)
  same_read (master o) b x a = a
  same_read (slave o) b x a = a
  same_read (at_slot_0 o) b x a = with_devices b x _ _ _ _ _ _ _ _ a (ties.tie_0.reads b.slot_0 x.slot_0 o a.at_0) a.at_1 a.at_2 a.at_3
  same_read (at_slot_1 o) b x a = with_devices b x _ _ _ _ _ _ _ _ a a.at_0 (ties.tie_1.reads b.slot_1 x.slot_1 o a.at_1) a.at_2 a.at_3
  same_read (at_slot_2 o) b x a = with_devices b x _ _ _ _ _ _ _ _ a a.at_0 a.at_1 (ties.tie_2.reads b.slot_2 x.slot_2 o a.at_2) a.at_3
  same_read (at_slot_3 o) b x a = with_devices b x _ _ _ _ _ _ _ _ a a.at_0 a.at_1 a.at_2 (ties.tie_3.reads b.slot_3 x.slot_3 o a.at_3)
  same_read open_bus b x a = a

  same_write : (t : Target) (v : ℕ) (b : Board A B C D) (x : Board X Y Z W) → As b x → As (after_write_at f t v b) (after_write_at g t v x)
  same_write (master o) v b x a = with_chips b x (λ p. record { master = write_chip o v p.master; slave = p.slave }) a
  same_write (slave o) v b x a = with_chips b x (λ p. record { master = p.master; slave = write_chip o v p.slave }) a
  same_write (at_slot_0 o) v b x a = with_devices b x _ _ _ _ _ _ _ _ a (ties.tie_0.writes b.slot_0 x.slot_0 o v a.at_0) a.at_1 a.at_2 a.at_3
  same_write (at_slot_1 o) v b x a = with_devices b x _ _ _ _ _ _ _ _ a a.at_0 (ties.tie_1.writes b.slot_1 x.slot_1 o v a.at_1) a.at_2 a.at_3
  same_write (at_slot_2 o) v b x a = with_devices b x _ _ _ _ _ _ _ _ a a.at_0 a.at_1 (ties.tie_2.writes b.slot_2 x.slot_2 o v a.at_2) a.at_3
  same_write (at_slot_3 o) v b x a = with_devices b x _ _ _ _ _ _ _ _ a a.at_0 a.at_1 a.at_2 (ties.tie_3.writes b.slot_3 x.slot_3 o v a.at_3)
  same_write open_bus v b x a = a

  -- Accesses of one port, which reach the same wide target on both boards.
  byte_alike : (port : ℕ) (b : Board A B C D) (x : Board X Y Z W) → is_port_of slot port ≡ false → As b x → byte_read f port b ≡ byte_read g port x
  byte_alike port b x other a =
      (wide_access f laws port).byte b ∙ same_byte (wide_target port) b x (elsewhere slot port other) a ∙ sym ((wide_access g laws' port).byte x)

  read_alike : (port : ℕ) (b : Board A B C D) (x : Board X Y Z W) → As b x → As (after_read f port b) (after_read g port x)
  read_alike port b x a =
      subst (λ c. As c (after_read g port x)) (sym ((wide_access f laws port).read b))
      (subst (As (after_read_at f (wide_target port) b)) (sym ((wide_access g laws' port).read x)) (same_read (wide_target port) b x a))

  write_alike : (port v : ℕ) (b : Board A B C D) (x : Board X Y Z W) → As b x → As (after_write f port v b) (after_write g port v x)
  write_alike port v b x a =
      subst (λ c. As c (after_write g port v x)) (sym ((wide_access f laws port).write v b))
      (subst (As (after_write_at f (wide_target port) v b)) (sym ((wide_access g laws' port).write v x)) (same_write (wide_target port) v b x a))

  -- The levels of the slots: of the one whose device is exchanged by what is shown, of the others by their devices.
  same_level : {S T : Type 0} (k : ℕ) (m : Meaning S) (n : Meaning T) (R : S → T → Type 0) → Tie m n R (slot ≡ k) → (s : S) (t : T) → R s t → (slot ≡ k → m.level s ≡ n.level t) → m.level s ≡ n.level t
  same_level k m n R tie s t r here =
      elim (cases_eq slot k) [
        | inl e ↦ here e
        | inr other ↦ tie.levels other s t r
      ]

  pub levels_alike : (b : Board A B C D) (x : Board X Y Z W) → R0 b.slot_0 x.slot_0 → R1 b.slot_1 x.slot_1 → R2 b.slot_2 x.slot_2 → R3 b.slot_3 x.slot_3
      → level_of slot (levels f b) ≡ level_of slot (levels g x) → levels f b ≡ levels g x
  levels_alike b x r0 r1 r2 r3 h =
      let here : (k : ℕ) → slot ≡ k → level_of k (levels f b) ≡ level_of k (levels g x) = λ k e. subst (λ s. level_of s (levels f b) ≡ level_of s (levels g x)) e h in
      let l0 : f.kind_0.level b.slot_0 ≡ g.kind_0.level x.slot_0 = same_level 0 f.kind_0 g.kind_0 R0 ties.tie_0 b.slot_0 x.slot_0 r0 (here 0) in
      let l1 : f.kind_1.level b.slot_1 ≡ g.kind_1.level x.slot_1 = same_level 1 f.kind_1 g.kind_1 R1 ties.tie_1 b.slot_1 x.slot_1 r1 (here 1) in
      let l2 : f.kind_2.level b.slot_2 ≡ g.kind_2.level x.slot_2 = same_level 2 f.kind_2 g.kind_2 R2 ties.tie_2 b.slot_2 x.slot_2 r2 (here 2) in
      let l3 : f.kind_3.level b.slot_3 ≡ g.kind_3.level x.slot_3 = same_level 3 f.kind_3 g.kind_3 R3 ties.tie_3 b.slot_3 x.slot_3 r3 (here 3) in
      rw (l0, l1, l2, l3)

  -- Both boards show the same in the slot, handing by handing. What is shown later is behind it in both lists: so lists of lengths that
  -- nobody knows are taken apart from the front.
  abbrev Shows : List (List Bool) → List (List Bool) → Type 0
  Shows us vs = map (level_of slot) us ≡ map (level_of slot) vs

  -- Two counts of the edges of alike boards, which show us and vs from now on.
  abbrev Steps : Counted A B C D → Counted X Y Z W → List (List Bool) → List (List Bool) → Type 0
  Steps c d us vs = As c.board d.board × (c.edges ≡ d.edges) × Shows us vs

  handing_alike : (b : Board A B C D) (x : Board X Y Z W) (e d : ℕ) (us vs : List (List Bool)) → As b x → e ≡ d → Shows (levels f b ∷ us) (levels g x ∷ vs) → Steps (handing f (counted f b e)) (handing g (counted g x d)) us vs
  handing_alike b x e d us vs a n h =
      let here = heads (level_of slot (levels f b)) (level_of slot (levels g x)) (map (level_of slot) us) (map (level_of slot) vs) h in
      let after = tails (level_of slot (levels f b)) (level_of slot (levels g x)) (map (level_of slot) us) (map (level_of slot) vs) h in
      let same = levels_alike b x a.at_0 a.at_1 a.at_2 a.at_3 here in
      let handed : As (hand f b) (hand g x) = record {
        at_0 = a.at_0;
        at_1 = a.at_1;
        at_2 = a.at_2;
        at_3 = a.at_3;
        time = a.time;
        handed = same;
        pair = ap₂ (λ vs p. drive_lines (on_line lines vs) p) same a.pair;
        pending = a.pending;
        nodes = a.nodes;
      } in
      (handed, ap₂ (λ p q. p + q) n (ap₂ edges_between a.handed same), after)

  due_alike : (ws : List QueuedWrite) (b : Board A B C D) (x : Board X Y Z W) (e d : ℕ) (us vs : List (List Bool)) → As b x → e ≡ d
      → Shows (handings_of_due f ws (counted f b e) ++ us) (handings_of_due g ws (counted g x d) ++ vs) → Steps (carry_out f ws (counted f b e)) (carry_out g ws (counted g x d)) us vs
  unfolding carry_out handings_of_due
  due_alike [] b x e d us vs a n h = (with_writes b x [] a, n, h)
  due_alike (w ∷ ws) b x e d us vs a n h =
      let p = after_write f w.port w.byte (with_pending ws b) in
      let q = after_write g w.port w.byte (with_pending ws x) in
      elim (cases_eq w.tick b.time) [
        | inl due ↦
            (let due' : w.tick ≡ x.time = due ∙ a.time in
            let both : As p q = write_alike w.port w.byte (with_pending ws b) (with_pending ws x) (with_writes b x ws a) in
            let m = handing f (counted f p e) in
            let k = handing g (counted g q d) in
            let shown : Shows (levels f p ∷ (handings_of_due f ws m ++ us)) (levels g q ∷ (handings_of_due g ws k ++ vs)) =
            sym (ap (λ l. map (level_of slot) (l ++ us)) (due_first f w ws b e due)) ∙ h ∙ ap (λ l. map (level_of slot) (l ++ vs)) (due_first g w ws x d due') in
            let first = handing_alike p q e d (handings_of_due f ws m ++ us) (handings_of_due g ws k ++ vs) both n shown in
            let rest = due_alike ws (hand f p) (hand g q) m.edges k.edges us vs first.0 first.1 first.2 in
            subst (λ c. Steps c (carry_out g (w ∷ ws) (counted g x d)) us vs) (sym (carry_due f w ws b e due))
            (subst (λ c. Steps (carry_out f ws m) c us vs) (sym (carry_due g w ws x d due')) rest))
        | inr later ↦
            (let later' : w.tick ≡ x.time → ⊥ = λ s. later (s ∙ sym a.time) in
            let shown : Shows us vs = sym (ap (λ l. map (level_of slot) (l ++ us)) (due_none f w ws b e later)) ∙ h ∙ ap (λ l. map (level_of slot) (l ++ vs)) (due_none g w ws x d later') in
            let kept : Steps (counted f (with_pending (w ∷ ws) b) e) (counted g (with_pending (w ∷ ws) x) d) us vs = (with_writes b x (w ∷ ws) a, n, shown) in
            subst (λ c. Steps c (carry_out g (w ∷ ws) (counted g x d)) us vs) (sym (carry_none f (w ∷ ws) b e later))
            (subst (λ c. Steps (counted f (with_pending (w ∷ ws) b) e) c us vs) (sym (carry_none g (w ∷ ws) x d later')) kept))
      ]

  ticked_alike : (b : Board A B C D) (x : Board X Y Z W) → As b x → As (devices_ticked f b) (devices_ticked g x)
  ticked_alike b x a = record {
    at_0 = ties.tie_0.ticks b.slot_0 x.slot_0 a.at_0;
    at_1 = ties.tie_1.ticks b.slot_1 x.slot_1 a.at_1;
    at_2 = ties.tie_2.ticks b.slot_2 x.slot_2 a.at_2;
    at_3 = ties.tie_3.ticks b.slot_3 x.slot_3 a.at_3;
    time = ap (λ t. t + 1) a.time;
    handed = a.handed;
    pair = a.pair;
    pending = a.pending;
    nodes = a.nodes;
  }

  tick_alike : (b : Board A B C D) (x : Board X Y Z W) (e d : ℕ) (us vs : List (List Bool)) → As b x → e ≡ d
      → Shows (handings_of_tick f (counted f b e) ++ us) (handings_of_tick g (counted g x d) ++ vs) → Steps (tick f (counted f b e)) (tick g (counted g x d)) us vs
  unfolding tick
  tick_alike b x e d us vs a n h =
      let p = devices_ticked f b in
      let q = devices_ticked g x in
      let m = handing f (counted f p e) in
      let k = handing g (counted g q d) in
      let shown : Shows (levels f p ∷ (handings_of_due f b.pending m ++ us)) (levels g q ∷ (handings_of_due g b.pending k ++ vs)) =
      subst (λ ws. Shows (levels f p ∷ (handings_of_due f b.pending m ++ us)) (levels g q ∷ (handings_of_due g ws k ++ vs))) (sym a.pending) h in
      let first = handing_alike p q e d (handings_of_due f b.pending m ++ us) (handings_of_due g b.pending k ++ vs) (ticked_alike b x a) n shown in
      subst (λ ws. Steps (carry_out f b.pending m) (carry_out g ws k) us vs) a.pending
      (due_alike b.pending (hand f p) (hand g q) m.edges k.edges us vs first.0 first.1 first.2)

  ticks_alike : (n : ℕ) (b : Board A B C D) (x : Board X Y Z W) (e d : ℕ) (us vs : List (List Bool)) → As b x → e ≡ d
      → Shows (handings_of_ticks f n (counted f b e) ++ us) (handings_of_ticks g n (counted g x d) ++ vs) → Steps (tick_times f n (counted f b e)) (tick_times g n (counted g x d)) us vs
  unfolding tick_times handings_of_ticks
  ticks_alike zero b x e d us vs a n h = (a, n, h)
  ticks_alike (suc k) b x e d us vs a n h =
      let c = counted f b e in
      let y = counted g x d in
      let shown : Shows (handings_of_tick f c ++ (handings_of_ticks f k (tick f c) ++ us)) (handings_of_tick g y ++ (handings_of_ticks g k (tick g y) ++ vs)) =
      sym (ap (map (level_of slot)) (append_assoc (handings_of_tick f c) (handings_of_ticks f k (tick f c)) us))
      ∙ h
      ∙ ap (map (level_of slot)) (append_assoc (handings_of_tick g y) (handings_of_ticks g k (tick g y)) vs) in
      let first = tick_alike b x e d (handings_of_ticks f k (tick f c) ++ us) (handings_of_ticks g k (tick g y) ++ vs) a n shown in
      ticks_alike k (tick f c).board (tick g y).board (tick f c).edges (tick g y).edges us vs first.0 first.1 first.2

  -- What a call comes to on both boards, which show us and vs from then on.
  abbrev Calls : Call → Answered A B C D → Answered X Y Z W → List (List Bool) → List (List Bool) → Type 0
  Calls c p q us vs = (reads_from slot c ≡ false → p.answer ≡ q.answer) × As p.board q.board × Shows us vs

  advance_alike : (n : ℕ) (b : Board A B C D) (x : Board X Y Z W) (us vs : List (List Bool)) → As b x
      → Shows (handings_of_call f (Advance n) b ++ us) (handings_of_call g (Advance n) x ++ vs) → Calls (Advance n) (do_advance f n b) (do_advance g n x) us vs
  advance_alike n b x us vs a =
      let P : Answered A B C D → Answered X Y Z W → Type 0 = λ t u.
      Shows (if_taken t.answer (handings_of_ticks f n (counted f b 0)) ++ us) (if_taken u.answer (handings_of_ticks g n (counted g x 0)) ++ vs) → Calls (Advance n) t u us vs in
      advance_cases f n b (λ t. P t (do_advance g n x))
      (λ far. subst (P (answered (Refused LongAdvance) b)) (sym (advance_long g n x far)) (λ h. ((λ other. refl), a, h)))
      (λ near late. subst (P (answered (Refused PastEnd) b)) (sym (advance_past g n x near (subst (λ t. end_of_time - t < n) a.time late))) (λ h. ((λ other. refl), a, h)))
      (λ w.
      let w' : Within n x = record { near = w.near; in_time = subst (λ t. n ≤ end_of_time - t) a.time w.in_time } in
      subst (P (answered (Edges (after f n b).edges) (after f n b).board)) (sym (advance_taken g n x w'))
      (λ h. let all = ticks_alike n b x 0 0 us vs a refl h in ((λ other. ap Edges all.1), all.0, all.2)))

  queued_alike : (in_time room : Bool) (w : QueuedWrite) (b : Board A B C D) (x : Board X Y Z W) (us vs : List (List Bool)) → As b x → Shows us vs → Calls (Queue w) (queued in_time room w b) (queued in_time room w x) us vs
  queued_alike false room w b x us vs a h = ((λ other. refl), a, h)
  queued_alike true false w b x us vs a h = ((λ other. refl), a, h)
  queued_alike true true w b x us vs a h =
      ((λ other. refl), subst (λ ws. As (with_pending (insert precedes w b.pending) b) (with_pending (insert precedes w ws) x)) a.pending (with_writes b x (insert precedes w b.pending) a), h)

  queue_alike : (w : QueuedWrite) (b : Board A B C D) (x : Board X Y Z W) (us vs : List (List Bool)) → As b x → Shows us vs → Calls (Queue w) (do_queue f w b) (do_queue g w x) us vs
  queue_alike w b x us vs a h =
      let same_time : is_in_time w b ≡ is_in_time w x = rw a.time in
      let same_room : has_room b ≡ has_room x = rw (a.pending, a.nodes) in
      subst (λ v. Calls (Queue w) (do_queue f w b) (queued v (has_room x) w x) us vs) same_time
      (subst (λ v. Calls (Queue w) (do_queue f w b) (queued (is_in_time w b) v w x) us vs) same_room
      (queued_alike (is_in_time w b) (has_room b) w b x us vs a h))

  -- The handing at the end of a call.
  hand_alike : (p : Board A B C D) (q : Board X Y Z W) (us vs : List (List Bool)) → As p q → Shows (levels f p ∷ us) (levels g q ∷ vs) → As (hand f p) (hand g q) × Shows us vs
  hand_alike p q us vs a h = let both = handing_alike p q 0 0 us vs a refl h in (both.0, both.2)

  call_alike : (c : Call) (b : Board A B C D) (x : Board X Y Z W) (us vs : List (List Bool)) → As b x → Shows (handings_of_call f c b ++ us) (handings_of_call g c x ++ vs) → Calls c (call f c b) (call g c x) us vs
  call_alike (Advance n) b x us vs a h = advance_alike n b x us vs a h
  call_alike (Read port) b x us vs a h =
      let after = hand_alike (after_read f port b) (after_read g port x) us vs (read_alike port b x a) h in
      ((λ other. ap Byte (byte_alike port b x other a)), after.0, after.1)
  call_alike (Write port v) b x us vs a h =
      let after = hand_alike (after_write f port v b) (after_write g port v x) us vs (write_alike port v b x a) h in
      ((λ other. refl), after.0, after.1)
  call_alike (Queue w) b x us vs a h = queue_alike w b x us vs a h
  call_alike Acknowledge b x us vs a h =
      let after = hand_alike (with_pair (acknowledged b.pair) b) (with_pair (acknowledged x.pair) x) us vs (with_chips b x acknowledged a) h in
      ((λ other. ap (λ p. Byte (vector p)) a.pair), after.0, after.1)
  call_alike CheckRequest b x us vs a h = ((λ other. ap (λ p. Requested (requests p.master)) a.pair), a, h)

  -- A run of calls on two boards that start alike and show the same in the slot.
  pub run_alike : (cs : List Call) (b : Board A B C D) (x : Board X Y Z W) → As b x → Shows (handings f cs b) (handings g cs x)
      → EqualBut slot cs (run f cs b).answers (run g cs x).answers × As (run f cs b).board (run g cs x).board
  unfolding run handings
  run_alike [] b x a h = (all_compared, a)
  run_alike (c ∷ cs) b x a h =
      let p = call f c b in
      let q = call g c x in
      let first = call_alike c b x (handings f cs p.board) (handings g cs q.board) a h in
      let rest = run_alike cs p.board q.board first.1 first.2 in
      (next c p.answer q.answer first.0 rest.0, rest.1)
