-- The timer has four ports, and nothing happens past them.
use Rattle.std.proofs.Common.{arith}
use Rattle.std.proofs.lemmas.Bool.Decides.{nat_tests}
use Rattle.rules.specs.Device.{Lawful}
use Rattle.rules.specs.I8254.{timer}

pub timer_lawful : Lawful timer
timer_lawful = record {
  some_port = omega arith;
  few_ports = omega arith;
  past_reads = λ t offset past. grind (arith, nat_tests);
  past_read_keeps = λ t offset past. grind (arith, nat_tests);
  past_write_keeps = λ t offset byte past. grind (arith, nat_tests);
}
