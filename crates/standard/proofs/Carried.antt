-- What a record prints on the tick board, by what its call answered there and left.
use Rattle.std.proofs.Common.{◌≡◌, ℕ, sym, ap, Ok, Err, Result}
use Rattle.rules.specs.Board.{Board, Fitting, Answered, call}
use Rattle.rules.specs.declared.calls.Answer.{Answer}
use Rattle.rules.specs.declared.calls.Answer.TheVariants.{Edges, Byte, Done, Refused}
use Rattle.rules.specs.declared.calls.Call.{Call}
use Rattle.rules.specs.declared.calls.Call.TheVariants.{Advance, Read, Write, Queue, Acknowledge}
use Rattle.rules.specs.Trace as trace
use Rattle.rules.specs.Trace.{on_board, advance_line, access_line, vector_line, refusal_line, answer_line, edges_of, byte_of}
use Rattle.rules.specs.declared.refusal.Refusal.{Refusal}
use Rattle.trace.specs.Performing.{performed, queue_reply}
use Rattle.board.specs.Answers.{of_queue}

module _ {A B C D : Type 0} (f : Fitting A B C D) (before after : Board A B C D) (place : ℕ) where
  -- the call gave this answer
  abbrev Gave : Call → Answer → Type 0
  Gave c a = ◌≡◌ {A = Answered A B C D} (record { answer = a; board = after }) (call f c before)

  pub advanced : (n edges : ℕ) → Gave (Advance n) (Edges edges) → on_board f (trace.Record.advance n) place before ≡ performed (advance_line after.time edges) after
  unfolding on_board
  advanced n edges gave = ap (λ a. performed (answer_line f (advance_line a.board.time (edges_of f a.answer)) place a.answer) a.board) (sym gave)

  pub not_advanced : (n : ℕ) (r : Refusal) → Gave (Advance n) (Refused r) → on_board f (trace.Record.advance n) place before ≡ performed (refusal_line r place) after
  unfolding on_board
  not_advanced n r gave = ap (λ a. performed (answer_line f (advance_line a.board.time (edges_of f a.answer)) place a.answer) a.board) (sym gave)

  pub was_read : (port byte : ℕ) → Gave (Read port) (Byte byte) → on_board f (trace.Record.read port) place before ≡ performed (access_line 82 port byte) after
  unfolding on_board
  was_read port byte gave = ap (λ a. performed (access_line 82 port (byte_of f a.answer)) a.board) (sym gave)

  pub was_written : (port byte : ℕ) → Gave (Write port byte) Done → on_board f (trace.Record.write port byte) place before ≡ performed (access_line 87 port byte) after
  unfolding on_board
  was_written port byte gave = ap (λ a. performed (access_line 87 port byte) a.board) (sym gave)

  pub acknowledged : (vector : ℕ) → Gave Acknowledge (Byte vector) → on_board f trace.Record.acknowledge place before ≡ performed (vector_line vector) after
  unfolding on_board
  acknowledged vector gave = ap (λ a. performed (vector_line (byte_of f a.answer)) a.board) (sym gave)

  pub queued : (tick port byte : ℕ) (r : Result (Unit {0}) Refusal) → Gave (Queue (record { tick = tick; port = port; byte = byte })) (of_queue r) → on_board f (trace.Record.queue tick port byte) place before ≡ performed (queue_reply tick r place) after
  unfolding on_board
  queued tick port byte (Ok u) gave = ap (λ a. performed (answer_line f (trace.queue_line tick) place a.answer) a.board) (sym gave)
  queued tick port byte (Err e) gave = ap (λ a. performed (answer_line f (trace.queue_line tick) place a.answer) a.board) (sym gave)
