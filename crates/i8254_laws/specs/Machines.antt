-- A counter and a channel as state machines of their own, so that ticks and announcements have one meaning for both and the timer.
use Rattle.std.specs.Prelude.{◌≡◌, ℕ, Some}
use Rattle.rules.specs.Device.{Meaning, ticks, Announces}
use Rattle.rules.specs.I8254.{Counter, Channel, tick_counter, tick_channel, byte_of_count, after_read_count, write_count}

-- A counter alone has no port.
abbrev pub counting : Meaning Counter
counting = record {
  width = 0;
  tick = tick_counter;
  level = λ c. c.out;
  byte_read = λ c offset. 255;
  after_read = λ c offset. c;
  after_write = λ c offset byte. c;
}

abbrev pub channel : Meaning Channel
channel = record {
  width = 1;
  tick = tick_channel;
  level = λ ch. ch.counter.out;
  byte_read = λ ch offset. byte_of_count ch;
  after_read = λ ch offset. after_read_count ch;
  after_write = λ ch offset byte. write_count byte ch;
}

-- What a machine in state s is when the level changes that it announces.
abbrev pub Turns : {S : Type 0} → Meaning S → S → S → Type 0
Turns m s t = (k : ℕ) → Announces m s (Some k) → t ≡ ticks m k s
