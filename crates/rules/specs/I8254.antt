-- The 8254 timer, one tick at a time. Gates are high for ever; there is no read-back and no decimal counting.
use Rattle.std.specs.Prelude.{ℕ, zero, suc, ◌+◌, ◌-◌, ◌*◌, ◌/◌, ◌%◌, Bool, true, false, cond, not, ◌&&◌, ◌||◌, [], ◌∷◌, Some, None, Option, ◌==◌, slice_index_or}
use Rattle.rules.specs.Device.{Meaning}

-- Which bytes of a count are written and read: the low one alone, the high one alone, or the low one and then the high one.
pub data Access : Type 0 where
  low_only high_only low_then_high : Access

pub data Mode : Type 0 where
  mode_0 mode_1 mode_2 mode_3 mode_4 mode_5 : Mode

-- The counting element of a channel with its count register and its OUT pin.
pub record Counter : Type 0 where
  pub mode : Mode
  pub out : Bool
  -- what it holds, 0 to 65,535
  pub value : ℕ
  -- the newest complete count, 1 to 65,536: in mode 0 until it is loaded, in the other modes until the next control word
  pub count : Option ℕ
  -- a count has been loaded since the last control word
  pub loaded : Bool
  -- mode 3: how many ticks of the present half are still to come
  pub left : ℕ

pub record Channel : Type 0 where
  pub access : Access
  -- the low byte of a count whose high byte is still to be written
  pub low_byte : Option ℕ
  -- the next read gives the high byte
  pub high_next : Bool
  -- the count that a latch command holds for reading
  pub latch : Option ℕ
  pub counter : Counter

pub record Timer : Type 0 where
  pub channel_0 : Channel
  pub channel_1 : Channel
  pub channel_2 : Channel

-- Counting is modulo 65,536: k less than v.
abbrev pub down : ℕ → ℕ → ℕ
down k v = (v + 65536 - k) % 65536

-- Mode 0: a complete count loads and waits no more; else a loaded counter goes down by one, and OUT goes high on reaching 0.
abbrev pub tick_mode_0 : Counter → Counter
tick_mode_0 c =
    elim c.count [
      | Some n ↦ record { mode = c.mode; out = c.out; value = n % 65536; count = None; loaded = true; left = 0 }
      | None ↦ cond c.loaded (record { mode = c.mode; out = c.out || (down 1 c.value == 0); value = down 1 c.value; count = None; loaded = true; left = 0 }) c
    ]

-- Mode 2: the first count loads. Then the counter goes down by one, and OUT goes low on reaching 1; on the tick after that
-- the newest complete count loads and OUT goes high.
abbrev pub tick_mode_2 : Counter → Counter
tick_mode_2 c =
    elim c.count [
      | Some n ↦
          cond (c.loaded && c.out)
          (record { mode = c.mode; out = not (down 1 c.value == 1); value = down 1 c.value; count = Some n; loaded = true; left = 0 })
          (record { mode = c.mode; out = true; value = n % 65536; count = Some n; loaded = true; left = 0 })
      | None ↦ c
    ]

-- Mode 3: the ticks of the high half and of the low half of a count n. An odd count has one tick more high than low.
abbrev pub half_length : Bool → ℕ → ℕ
half_length true n = (n + n % 2) / 2
half_length false n = (n - n % 2) / 2

-- Mode 3: a half begins, high or low, by loading the count less its odd one.
abbrev pub load_half : Bool → ℕ → Counter → Counter
load_half high n c = record { mode = c.mode; out = high; value = (n - n % 2) % 65536; count = Some n; loaded = true; left = half_length high n - 1 }

-- Mode 3, within a half: the counter goes down by two.
abbrev pub within_half : ℕ → Counter → Counter
within_half more c = record { mode = c.mode; out = c.out; value = down 2 c.value; count = c.count; loaded = true; left = more }

-- Mode 3: the first load starts a high half; after the last tick of a half the other half starts with the newest complete count.
abbrev pub tick_mode_3 : Counter → Counter
tick_mode_3 c =
    elim c.count [
      | Some n ↦ cond c.loaded (elim c.left [ zero ↦ load_half (not c.out) n c | suc more ↦ within_half more c ]) (load_half true n c)
      | None ↦ c
    ]

-- One tick of a counter. In modes 1, 4 and 5 it stands still.
abbrev pub tick_counter : Counter → Counter
tick_counter c =
    elim c.mode [
      | mode_0 ↦ tick_mode_0 c
      | mode_1 ↦ c
      | mode_2 ↦ tick_mode_2 c
      | mode_3 ↦ tick_mode_3 c
      | mode_4 ↦ c
      | mode_5 ↦ c
    ]

abbrev pub is_mode_0 : Mode → Bool
is_mode_0 mode_0 = true
is_mode_0 mode_1 = false
is_mode_0 mode_2 = false
is_mode_0 mode_3 = false
is_mode_0 mode_4 = false
is_mode_0 mode_5 = false

abbrev pub with_counter : Channel → Counter → Channel
with_counter ch c = record { access = ch.access; low_byte = ch.low_byte; high_next = ch.high_next; latch = ch.latch; counter = c }

-- One tick of a channel. In mode 0, between the two bytes of a count, nothing loads or counts.
abbrev pub tick_channel : Channel → Channel
tick_channel ch =
    elim ch.low_byte [
      | Some low ↦ cond (is_mode_0 ch.counter.mode) ch (with_counter ch (tick_counter ch.counter))
      | None ↦ with_counter ch (tick_counter ch.counter)
    ]

abbrev pub tick_timer : Timer → Timer
tick_timer t = record { channel_0 = tick_channel t.channel_0; channel_1 = tick_channel t.channel_1; channel_2 = tick_channel t.channel_2 }

-- A count as written: 0 means 65,536, and in modes 2 and 3 a 1 means 2.
abbrev pub count_meant : Mode → ℕ → ℕ
count_meant m n =
    let at_least_2 : ℕ = cond (n == 0) 65536 (cond (n == 1) 2 n) in
    let at_least_1 : ℕ = cond (n == 0) 65536 n in
    elim m [ mode_0 ↦ at_least_1 | mode_1 ↦ at_least_1 | mode_2 ↦ at_least_2 | mode_3 ↦ at_least_2 | mode_4 ↦ at_least_1 | mode_5 ↦ at_least_1 ]

-- The first or only byte of a count: in mode 0 it puts OUT low.
abbrev pub first_byte : Counter → Counter
first_byte c = record { mode = c.mode; out = c.out && not (is_mode_0 c.mode); value = c.value; count = c.count; loaded = c.loaded; left = c.left }

-- The count n is complete: it is the newest.
abbrev pub complete : ℕ → Counter → Counter
complete n c = record { mode = c.mode; out = c.out; value = c.value; count = Some (count_meant c.mode n); loaded = c.loaded; left = c.left }

-- A byte written to a channel's count.
abbrev pub write_count : ℕ → Channel → Channel
write_count byte ch =
    elim ch.access [
      | low_only ↦ with_counter ch (complete byte (first_byte ch.counter))
      | high_only ↦ with_counter ch (complete (256 * byte) (first_byte ch.counter))
      | low_then_high ↦
          elim ch.low_byte [
            | None ↦ record { access = ch.access; low_byte = Some byte; high_next = ch.high_next; latch = ch.latch; counter = first_byte ch.counter }
            | Some low ↦ record { access = ch.access; low_byte = None; high_next = ch.high_next; latch = ch.latch; counter = complete (low + 256 * byte) ch.counter }
          ]
    ]

-- What a read looks at: the latched count, else the live counter.
abbrev pub shown : Channel → ℕ
shown ch = elim ch.latch [ Some n ↦ n | None ↦ ch.counter.value ]

abbrev pub byte_of_count : Channel → ℕ
byte_of_count ch =
    elim ch.access [
      | low_only ↦ shown ch % 256
      | high_only ↦ shown ch / 256
      | low_then_high ↦ cond ch.high_next (shown ch / 256) (shown ch % 256)
    ]

-- After a read: two bytes come in turn, and a latched count drops with its last byte.
abbrev pub after_read_count : Channel → Channel
after_read_count ch =
    elim ch.access [
      | low_only ↦ record { access = ch.access; low_byte = ch.low_byte; high_next = ch.high_next; latch = None; counter = ch.counter }
      | high_only ↦ record { access = ch.access; low_byte = ch.low_byte; high_next = ch.high_next; latch = None; counter = ch.counter }
      | low_then_high ↦
          cond ch.high_next
          (record { access = ch.access; low_byte = ch.low_byte; high_next = false; latch = None; counter = ch.counter })
          (record { access = ch.access; low_byte = ch.low_byte; high_next = true; latch = ch.latch; counter = ch.counter })
    ]

-- A latch command holds the counter, unless a count is held already.
abbrev pub latch_count : Channel → Channel
latch_count ch = record { access = ch.access; low_byte = ch.low_byte; high_next = ch.high_next; latch = Some (shown ch); counter = ch.counter }

-- The mode bits of a control word; 6 and 7 mean modes 2 and 3.
abbrev pub mode_meant : ℕ → Mode
mode_meant bits = slice_index_or (mode_0 ∷ mode_1 ∷ mode_2 ∷ mode_3 ∷ mode_4 ∷ mode_5 ∷ mode_2 ∷ mode_3 ∷ []) bits mode_0

abbrev pub access_meant : ℕ → Access
access_meant code = cond (code == 1) low_only (cond (code == 2) high_only low_then_high)

-- A control word programs a channel: OUT is low in mode 0 and high otherwise, both byte toggles go to low, latch and counts are
-- dropped, and the counter keeps its value and stands still until a count is loaded.
abbrev pub program : Access → Mode → Channel → Channel
program a m ch =
    record { access = a; low_byte = None; high_next = false; latch = None; counter = record { mode = m; out = not (is_mode_0 m); value = ch.counter.value; count = None; loaded = false; left = 0 } }

-- A control word at its channel: code 0 in bits 5-4 latches, any other programs.
abbrev pub control : ℕ → Channel → Channel
control word ch = cond (word / 16 % 4 == 0) (latch_count ch) (program (access_meant (word / 16 % 4)) (mode_meant (word / 2 % 8)) ch)

-- One channel of the timer changed, by number; there is no channel 3.
abbrev pub at_channel : ℕ → (Channel → Channel) → Timer → Timer
at_channel n f t =
    cond (n == 0) (record { channel_0 = f t.channel_0; channel_1 = t.channel_1; channel_2 = t.channel_2 })
    (cond (n == 1) (record { channel_0 = t.channel_0; channel_1 = f t.channel_1; channel_2 = t.channel_2 })
    (cond (n == 2) (record { channel_0 = t.channel_0; channel_1 = t.channel_1; channel_2 = f t.channel_2 }) t))

-- Offsets 0 to 2 are the channels' counts, and offset 3 takes control words, whose bits 7-6 name the channel.
abbrev pub write_timer : Timer → ℕ → ℕ → Timer
write_timer t offset byte = cond (offset == 3) (at_channel (byte / 64) (control byte) t) (at_channel offset (write_count byte) t)

abbrev pub read_timer : Timer → ℕ → ℕ
read_timer t offset =
    cond (offset == 0) (byte_of_count t.channel_0)
    (cond (offset == 1) (byte_of_count t.channel_1)
    (cond (offset == 2) (byte_of_count t.channel_2) 255))

abbrev pub after_read_timer : Timer → ℕ → Timer
after_read_timer t offset = at_channel offset after_read_count t

-- At power on a channel takes two bytes, is in mode 0 with OUT low, and stands still at 0 with no count.
abbrev pub power_on_channel : Channel
power_on_channel =
    record { access = low_then_high; low_byte = None; high_next = false; latch = None; counter = record { mode = mode_0; out = false; value = 0; count = None; loaded = false; left = 0 } }

abbrev pub power_on_timer : Timer
power_on_timer = record { channel_0 = power_on_channel; channel_1 = power_on_channel; channel_2 = power_on_channel }

-- The timer as a device: four ports, and channel 0's OUT is its level.
abbrev pub timer : Meaning Timer
timer = record {
  width = 4;
  tick = tick_timer;
  level = λ t. t.channel_0.counter.out;
  byte_read = read_timer;
  after_read = after_read_timer;
  after_write = write_timer;
}
