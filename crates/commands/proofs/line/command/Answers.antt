use Rattle.std.proofs.Common.{codes, Err, sym, ap, ◌∙◌, refl}
use Rattle.commands.specs.Meaning as meaning
use Rattle.commands.proofs.Steps.{missing_is, read_fault, command_none, named_at, unknown, other_bytes}
use Rattle.commands.proofs.line.command.Goals as goal

pub returns-in_err-name : goal.returns-in_err-name
returns-in_err-name c =
    let missing = c.in_err-name.ensures in
    read_fault meaning.command c.args.words.now c.next.new.self _ c.from_residual.ensures.1 (command_none c.args.words.now c.next.new.self _ c.next.ensures.steps missing.ok_part ∙ ap (λ e. Err e) (sym (missing_is _ missing.ok_part missing.value)))

pub returns-in_err-port-in-Ok-outb : goal.returns-in_err-port-in-Ok-outb
unfolding meaning.named meaning.and_then
returns-in_err-port-in-Ok-outb c =
    let name = named_at c.args.words.now c.next.new.self _ _ _ (codes "outb") c.next.ensures.steps c.in_ok-name.ensures.ok_part c.in-Ok-outb.ensures.cases.0 c.in-Ok-outb.is-outb in
    read_fault meaning.command c.args.words.now c.port.new.self _ c.from_residual-in_err-port-in-Ok-outb.ensures.1 (rw (name, c.in_err-port-in-Ok-outb.ensures, meaning.named, meaning.and_then))

pub returns-in_err-byte-in-Ok-outb : goal.returns-in_err-byte-in-Ok-outb
unfolding meaning.named meaning.and_then
returns-in_err-byte-in-Ok-outb c =
    let name = named_at c.args.words.now c.next.new.self _ _ _ (codes "outb") c.next.ensures.steps c.in_ok-name.ensures.ok_part c.in-Ok-outb.ensures.cases.0 c.in-Ok-outb.is-outb in
    read_fault meaning.command c.args.words.now c.byte.new.self _ c.from_residual-in_err-byte-in-Ok-outb.ensures.1 (rw (name, c.in_ok-port-in-Ok-outb.ensures, c.in_err-byte-in-Ok-outb.ensures, meaning.named, meaning.and_then))

pub returns-in_ok-byte-in-Ok-outb : goal.returns-in_ok-byte-in-Ok-outb
unfolding meaning.named meaning.and_then
returns-in_ok-byte-in-Ok-outb c =
    let name = named_at c.args.words.now c.next.new.self _ _ _ (codes "outb") c.next.ensures.steps c.in_ok-name.ensures.ok_part c.in-Ok-outb.ensures.cases.0 c.in-Ok-outb.is-outb in
    rw (name, c.in_ok-port-in-Ok-outb.ensures, c.in_ok-byte-in-Ok-outb.ensures, meaning.named, meaning.and_then)

pub returns-in_err-port-in-Ok-inb : goal.returns-in_err-port-in-Ok-inb
unfolding meaning.named meaning.and_then
returns-in_err-port-in-Ok-inb c =
    let name = named_at c.args.words.now c.next.new.self _ _ _ (codes "inb") c.next.ensures.steps c.in_ok-name.ensures.ok_part c.in-Ok-inb.ensures.cases.0 c.in-Ok-inb.is-inb in
    read_fault meaning.command c.args.words.now c.port-in-Ok-inb.new.self _ c.from_residual-in_err-port-in-Ok-inb.ensures.1 (rw (name, c.in_err-port-in-Ok-inb.ensures, meaning.named, meaning.and_then))

pub returns-in_ok-port-in-Ok-inb : goal.returns-in_ok-port-in-Ok-inb
unfolding meaning.named meaning.and_then
returns-in_ok-port-in-Ok-inb c =
    let name = named_at c.args.words.now c.next.new.self _ _ _ (codes "inb") c.next.ensures.steps c.in_ok-name.ensures.ok_part c.in-Ok-inb.ensures.cases.0 c.in-Ok-inb.is-inb in
    rw (name, c.in_ok-port-in-Ok-inb.ensures, meaning.named, meaning.and_then)

pub returns-in_err-number-in-Ok-text : goal.returns-in_err-number-in-Ok-text
unfolding meaning.named meaning.and_then
returns-in_err-number-in-Ok-text c =
    let name = named_at c.args.words.now c.next.new.self _ _ _ (codes "clock_step") c.next.ensures.steps c.in_ok-name.ensures.ok_part c.in-Ok-text.ensures.cases.0 c.in-Ok-text.is-clock_step in
    read_fault meaning.command c.args.words.now c.number.new.self _ c.from_residual-in_err-number-in-Ok-text.ensures.1 (rw (name, c.in_err-number-in-Ok-text.ensures, meaning.named, meaning.and_then))

pub returns-in_ok-number-in-Ok-text : goal.returns-in_ok-number-in-Ok-text
unfolding meaning.named meaning.and_then
returns-in_ok-number-in-Ok-text c =
    let name = named_at c.args.words.now c.next.new.self _ _ _ (codes "clock_step") c.next.ensures.steps c.in_ok-name.ensures.ok_part c.in-Ok-text.ensures.cases.0 c.in-Ok-text.is-clock_step in
    rw (name, c.in_ok-number-in-Ok-text.ensures, meaning.named, meaning.and_then)

pub returns-in_err-number-in-Ok-queue : goal.returns-in_err-number-in-Ok-queue
unfolding meaning.named meaning.and_then
returns-in_err-number-in-Ok-queue c =
    let name = named_at c.args.words.now c.next.new.self _ _ _ (codes "queue") c.next.ensures.steps c.in_ok-name.ensures.ok_part c.in-Ok-queue.ensures.cases.0 c.in-Ok-queue.is-queue in
    read_fault meaning.command c.args.words.now c.number-in-Ok-queue.new.self _ c.from_residual-in_err-number-in-Ok-queue.ensures.1 (rw (name, c.in_err-number-in-Ok-queue.ensures, meaning.named, meaning.and_then))

pub returns-in_err-port-in-Ok-queue : goal.returns-in_err-port-in-Ok-queue
unfolding meaning.named meaning.and_then
returns-in_err-port-in-Ok-queue c =
    let name = named_at c.args.words.now c.next.new.self _ _ _ (codes "queue") c.next.ensures.steps c.in_ok-name.ensures.ok_part c.in-Ok-queue.ensures.cases.0 c.in-Ok-queue.is-queue in
    read_fault meaning.command c.args.words.now c.port-in-Ok-queue.new.self _ c.from_residual-in_err-port-in-Ok-queue.ensures.1 (rw (name, c.in_ok-number-in-Ok-queue.ensures, c.in_err-port-in-Ok-queue.ensures, meaning.named, meaning.and_then))

pub returns-in_err-byte-in-Ok-queue : goal.returns-in_err-byte-in-Ok-queue
unfolding meaning.named meaning.and_then
returns-in_err-byte-in-Ok-queue c =
    let name = named_at c.args.words.now c.next.new.self _ _ _ (codes "queue") c.next.ensures.steps c.in_ok-name.ensures.ok_part c.in-Ok-queue.ensures.cases.0 c.in-Ok-queue.is-queue in
    read_fault meaning.command c.args.words.now c.byte-in-Ok-queue.new.self _ c.from_residual-in_err-byte-in-Ok-queue.ensures.1 (rw (name, c.in_ok-number-in-Ok-queue.ensures, c.in_ok-port-in-Ok-queue.ensures, c.in_err-byte-in-Ok-queue.ensures, meaning.named, meaning.and_then))

pub returns-in_ok-byte-in-Ok-queue : goal.returns-in_ok-byte-in-Ok-queue
unfolding meaning.named meaning.and_then
returns-in_ok-byte-in-Ok-queue c =
    let name = named_at c.args.words.now c.next.new.self _ _ _ (codes "queue") c.next.ensures.steps c.in_ok-name.ensures.ok_part c.in-Ok-queue.ensures.cases.0 c.in-Ok-queue.is-queue in
    rw (name, c.in_ok-number-in-Ok-queue.ensures, c.in_ok-port-in-Ok-queue.ensures, c.in_ok-byte-in-Ok-queue.ensures, meaning.named, meaning.and_then)

pub returns-in-Ok-iack : goal.returns-in-Ok-iack
unfolding meaning.named
returns-in-Ok-iack c =
    let name = named_at c.args.words.now c.next.new.self _ _ _ (codes "iack") c.next.ensures.steps c.in_ok-name.ensures.ok_part c.in-Ok-iack.ensures.cases.0 c.in-Ok-iack.is-iack in
    rw (name, meaning.named)

pub returns-in-Ok-irq : goal.returns-in-Ok-irq
unfolding meaning.named
returns-in-Ok-irq c =
    let name = named_at c.args.words.now c.next.new.self _ _ _ (codes "irq") c.next.ensures.steps c.in_ok-name.ensures.ok_part c.in-Ok-irq.ensures.cases.0 c.in-Ok-irq.is-irq in
    rw (name, meaning.named)

pub returns-in-Ok-state : goal.returns-in-Ok-state
unfolding meaning.named
returns-in-Ok-state c =
    let name = named_at c.args.words.now c.next.new.self _ _ _ (codes "state") c.next.ensures.steps c.in_ok-name.ensures.ok_part c.in-Ok-state.ensures.cases.0 c.in-Ok-state.is-state in
    rw (name, meaning.named)

pub returns-in-Ok-help : goal.returns-in-Ok-help
unfolding meaning.named
returns-in-Ok-help c =
    let name = named_at c.args.words.now c.next.new.self _ _ _ (codes "help") c.next.ensures.steps c.in_ok-name.ensures.ok_part c.in-Ok-help.ensures.cases.0 c.in-Ok-help.is-help in
    rw (name, meaning.named)

pub returns-in-Ok-quit : goal.returns-in-Ok-quit
unfolding meaning.named
returns-in-Ok-quit c =
    let name = named_at c.args.words.now c.next.new.self _ _ _ (codes "quit") c.next.ensures.steps c.in_ok-name.ensures.ok_part c.in-Ok-quit.ensures.cases.0 c.in-Ok-quit.is-quit in
    rw (name, meaning.named)

pub returns-in_default : goal.returns-in_default
returns-in_default c =
    let d = c.in_default in
    let name = named_at c.args.words.now c.next.new.self _ _ _ d.field-0.now c.next.ensures.steps c.in_ok-name.ensures.ok_part (rw d.is at c.from_utf8.ensures.cases).0 refl in
    name ∙ unknown d.field-0.now _ (λ e. d.not-outb cc, λ e. d.not-inb cc, λ e. d.not-clock_step cc, λ e. d.not-iack cc, λ e. d.not-irq cc, λ e. d.not-queue cc, λ e. d.not-state cc, λ e. d.not-help cc, λ e. d.not-quit cc)

pub returns-in_default-2 : goal.returns-in_default-2
returns-in_default-2 c =
    let name = named_at c.args.words.now c.next.new.self _ _ _ c.in_ok-name.name.now c.next.ensures.steps c.in_ok-name.ensures.ok_part refl refl in
    name ∙ unknown c.in_ok-name.name.now _ (other_bytes _ (rw c.in_default.is at c.from_utf8.ensures.cases).0)
