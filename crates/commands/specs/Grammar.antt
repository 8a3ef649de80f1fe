-- The grammar of the console: which lines are spellings of a command.
use Rattle.std.specs.Prelude.{◌≡◌, ℕ, ◌^◌, ◌<◌, ◌⊎◌, List, [], ◌∷◌, ◌++◌, ⊤, Ok, codes, decimal}
use Rattle.std.specs.Str.Parse.{IsNumeral, digits_value}
use Rattle.commands.specs.Words.{words_of_line}
use Rattle.commands.specs.Meaning.{meaning}
use Rattle.commands.specs.declared.command.Command.{Command}
use Rattle.commands.specs.declared.command.Command.TheVariants.{Outb, Inb, ClockStep, Iack, Irq, Queue, State, Help, Quit}

-- A word writes a number: in decimal digits, or in 0x and hexadecimal digits of either case, with leading zeros or without.
abbrev pub Writes : List ℕ → ℕ → Type 0
Writes word n =
    (IsNumeral 10 word × (digits_value 10 word ≡ n))
    ⊎ ((digits : List ℕ) × (word ≡ codes "0x" ++ digits) × IsNumeral 16 digits × (digits_value 16 digits ≡ n))

abbrev pub name_of : Command → List ℕ
name_of (Outb port byte) = codes "outb"
name_of (Inb port) = codes "inb"
name_of (ClockStep n) = codes "clock_step"
name_of Iack = codes "iack"
name_of Irq = codes "irq"
name_of (Queue write) = codes "queue"
name_of State = codes "state"
name_of Help = codes "help"
name_of Quit = codes "quit"

-- A number of a command, and the limit that it is below.
pub record Number : Type 0 where
  pub value : ℕ
  pub limit : ℕ

abbrev pub of_bits : ℕ → ℕ → Number
of_bits bits n = record { value = n; limit = 2 ^ bits }

abbrev pub numbers_of : Command → List Number
numbers_of (Outb port byte) = of_bits 16 port ∷ of_bits 8 byte ∷ []
numbers_of (Inb port) = of_bits 16 port ∷ []
numbers_of (ClockStep n) = of_bits 64 n ∷ []
numbers_of Iack = []
numbers_of Irq = []
numbers_of (Queue write) = of_bits 64 write.tick ∷ of_bits 16 write.port ∷ of_bits 8 write.byte ∷ []
numbers_of State = []
numbers_of Help = []
numbers_of Quit = []

-- One word for each number, in their order.
abbrev pub WriteEach : List (List ℕ) → List Number → Type 0
WriteEach [] [] = ⊤
WriteEach [] (n ∷ ns) = ⊥
WriteEach (word ∷ words) [] = ⊥
WriteEach (word ∷ words) (n ∷ ns) = Writes word n.value × (n.value < n.limit) × WriteEach words ns

-- A line is a spelling of a command: its words are the name and the numbers.
pub record Spells (line : List ℕ) (c : Command) : Type 0 where
  pub arguments : List (List ℕ)
  pub words : words_of_line line ≡ name_of c ∷ arguments
  pub numbers : WriteEach arguments (numbers_of c)

-- ---- the canonical text

abbrev pub written_behind : List ℕ → List Number → List ℕ
written_behind text [] = text
written_behind text (n ∷ ns) = text ++ 32 ∷ written_behind (decimal n.value) ns

-- The name and the numbers in decimal, each behind one blank.
abbrev pub written : Command → List ℕ
written c = written_behind (name_of c) (numbers_of c)

abbrev pub Fit : List Number → Type 0
Fit [] = ⊤
Fit (n ∷ ns) = (n.value < n.limit) × Fit ns

-- A command that is written out reads back.
abbrev pub ReadsBack : Type 0
ReadsBack = (c : Command) → Fit (numbers_of c) → meaning (written c) ≡ Ok c
