-- What a line means: a command, or the first fault from its left.
use Rattle.std.specs.Prelude.{ℕ, ◌^◌, List, [], ◌∷◌, Ok, Err, Result, bytes_eq, codes, if◌then◌else◌}
use Rattle.commands.specs.Words.{words_of_line}
use Rattle.commands.specs.Numbers.{number_below}
use Rattle.commands.specs.declared.command.Command.{Command}
use Rattle.commands.specs.declared.command.Command.TheVariants.{Outb, Inb, ClockStep, Iack, Irq, Queue, State, Help, Quit}
use Rattle.commands.specs.declared.command.Unreadable.{Unreadable}
use Rattle.commands.specs.declared.command.Unreadable.TheVariants.{EmptyLine, UnknownCommand, MissingWord, ExtraWord}

-- What reads an A off the front of some words leaves the words behind it, or meets a fault.
abbrev pub Reads : Type 0 → Type 0
Reads A = List (List ℕ) → Result (A × List (List ℕ)) Unreadable

abbrev pub done : {A : Type 0} → A → Reads A
done a words = Ok (a, words)

-- Reads an A, and then what is to follow it.
unfoldable pub and_then : {A B : Type 0} → Reads A → (A → Reads B) → Reads B
and_then reads next words = elim (reads words) [ Ok r ↦ next r.0 r.1 | Err e ↦ Err e ]

unfoldable pub number : ℕ → Reads ℕ
number limit [] = Err MissingWord
number limit (word ∷ words) = elim (number_below limit word) [ Ok n ↦ Ok (n, words) | Err e ↦ Err e ]

abbrev pub wide : Reads ℕ
wide = number (2 ^ 64)

abbrev pub port : Reads ℕ
port = number (2 ^ 16)

abbrev pub byte : Reads ℕ
byte = number (2 ^ 8)

-- What stands behind the name of a command.
unfoldable pub named : List ℕ → Reads Command
named name =
    if bytes_eq name (codes "outb") then and_then port (λ p. and_then byte (λ b. done (Outb p b)))
    else if bytes_eq name (codes "inb") then and_then port (λ p. done (Inb p))
    else if bytes_eq name (codes "clock_step") then and_then wide (λ n. done (ClockStep n))
    else if bytes_eq name (codes "iack") then done Iack
    else if bytes_eq name (codes "irq") then done Irq
    else if bytes_eq name (codes "queue") then and_then wide (λ t. and_then port (λ p. and_then byte (λ b. done (Queue (record { tick = t; port = p; byte = b })))))
    else if bytes_eq name (codes "state") then done State
    else if bytes_eq name (codes "help") then done Help
    else if bytes_eq name (codes "quit") then done Quit
    else (λ words. Err UnknownCommand)

unfoldable pub command : Reads Command
command [] = Err EmptyLine
command (name ∷ words) = named name words

unfoldable pub end : Reads (Unit {0})
end [] = Ok (tt, [])
end (word ∷ words) = Err ExtraWord

unfoldable pub meaning : List ℕ → Result Command Unreadable
meaning line = elim (and_then command (λ c. and_then end (λ u. done c)) (words_of_line line)) [ Ok r ↦ Ok r.0 | Err e ↦ Err e ]
