-- A pulse generator keeps what every device keeps: it has four ports, and nothing happens past them.
use Rattle.std.proofs.Common.{arith}
use Rattle.std.proofs.lemmas.Bool.Decides.{nat_tests}
use Rattle.rules.specs.Device.{Lawful}
use Rattle.pulse.specs.Pulse.{pulse_generator}

pub pulse_lawful : Lawful pulse_generator
pulse_lawful = record {
  some_port = omega arith;
  few_ports = omega arith;
  past_reads = λ s offset past. grind (arith, nat_tests);
  past_read_keeps = λ s offset past. grind (arith, nat_tests);
  past_write_keeps = λ s offset byte past. grind (arith, nat_tests);
}
