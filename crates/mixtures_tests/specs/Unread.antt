-- A device around one of any meaning, which no read reaches.
use Rattle.std.specs.Prelude.{ℕ, ◌+◌, cond, nat_lt, refl}
use Rattle.std.proofs.Common.{arith}
use Rattle.std.proofs.lemmas.Bool.Decides.{nat_tests}
use Rattle.rules.specs.Device.{Meaning, Lawful}

-- A read gives a byte of its own at each of eight offsets.
abbrev pub unread_byte : ℕ → ℕ
unread_byte offset = cond (nat_lt offset 8) (160 + offset) 255

-- Its states are the inner device's, and so are tick, level and writes. A read leaves the state as it is.
abbrev pub unread : {S : Type 0} → Meaning S → Meaning S
unread m = record {
  width = 8;
  tick = m.tick;
  level = m.level;
  byte_read = λ s offset. unread_byte offset;
  after_read = λ s offset. s;
  after_write = m.after_write;
}

-- It keeps what every device keeps, where the inner one does: a write past its ports is past the inner one's.
pub unread_lawful : {S : Type 0} (m : Meaning S) → Lawful m → Lawful (unread m)
unread_lawful m l = record {
  some_port = omega arith;
  few_ports = omega arith;
  past_reads = λ s offset past. grind (arith, nat_tests);
  past_read_keeps = λ s offset past. refl;
  past_write_keeps = λ s offset byte past. let few = l.few_ports in l.past_write_keeps s offset byte (omega arith);
}
