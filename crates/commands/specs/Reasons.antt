-- Why a line is no command, in words.
use Rattle.std.specs.Prelude.{ℕ, List, codes}
use Rattle.commands.specs.declared.command.Unreadable.{Unreadable}
use Rattle.commands.specs.declared.command.Unreadable.TheVariants.{EmptyLine, UnknownCommand, MissingWord, ExtraWord, NotANumber, TooLarge}

abbrev pub reason_of : Unreadable → List ℕ
reason_of EmptyLine = codes "empty line"
reason_of UnknownCommand = codes "unknown command"
reason_of MissingWord = codes "missing word"
reason_of ExtraWord = codes "extra word"
reason_of NotANumber = codes "not a number"
reason_of TooLarge = codes "number too large"
