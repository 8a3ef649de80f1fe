-- A square wave keeps what every device keeps: it has one port, and nothing happens past it.
use Rattle.std.proofs.Common.{refl, arith}
use Rattle.std.proofs.lemmas.Bool.Decides.{nat_tests}
use Rattle.rules.specs.Device.{Lawful}
use Rattle.device_tests.specs.Wave.{square_wave}

pub wave_lawful : Lawful square_wave
wave_lawful = record {
  some_port = omega arith;
  few_ports = omega arith;
  past_reads = λ s offset past. grind (arith, nat_tests);
  past_read_keeps = λ s offset past. refl;
  past_write_keeps = λ s offset byte past. grind (arith, nat_tests);
}
