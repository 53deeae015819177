-- `log_writer::put_record` meets its contract: the refusals in their order. Assumes nothing.
use mathlib.Core.Path.{sym, ap, ◌∙◌}
use Prim.Native.Nat.{◌+◌}
use borrow.Author.Tests.{le-leb, lt-leb}
use lib.ListN.{length}
use Rattle.error.specs.Refusals.{given}
use Rattle.error.proofs.Ladder.{pass, stop}
use Rattle.log_writer.specs.Writer.{put_said}
use Rattle.log_writer.proofs.Written.{not_put, put}
use Rattle.log_writer.proofs.put_record.Goals as goal

pub returns-then-not-is_kind : goal.returns-then-not-is_kind
unfolding put_said
returns-then-not-is_kind c = let a = c.args in
    let s = stop _ _ _ _ (sym c.is_kind.ensures ∙ c.if-not-is_kind.true) in
    record { answer = s; area = not_put a.kind a.payload.now a.out.now _ _ s }

pub returns-then-payload-gt64 : goal.returns-then-payload-gt64
unfolding put_said
returns-then-payload-gt64 c = let a = c.args in
    let s = pass _ _ _ _ _ (sym c.is_kind.ensures ∙ c.if-not-is_kind.false) (stop _ _ _ _ (lt-leb (length a.payload.now) 64 c.if-payload-gt64.true)) in
    record { answer = s; area = not_put a.kind a.payload.now a.out.now _ _ s }

pub returns-then-out-payload : goal.returns-then-out-payload
unfolding put_said
returns-then-out-payload c = let a = c.args in
    let s =
    pass _ _ _ _ _ (sym c.is_kind.ensures ∙ c.if-not-is_kind.false)
    (pass _ _ _ _ _ (le-leb (length a.payload.now) 64 c.if-payload-gt64.false)
    (stop _ _ _ _ (lt-leb (7 + length a.payload.now) (length a.out.now) c.if-out-payload.true))) in
    record { answer = s; area = not_put a.kind a.payload.now a.out.now _ _ s }

pub write-requires : goal.write-requires
write-requires c = (sym c.is_kind.ensures ∙ c.if-not-is_kind.false, c.if-payload-gt64.false, c.if-out-payload.false)

pub returns : goal.returns
unfolding put_said
returns c = let a = c.args in
    let s =
    pass _ _ _ _ _ (sym c.is_kind.ensures ∙ c.if-not-is_kind.false)
    (pass _ _ _ _ _ (le-leb (length a.payload.now) 64 c.if-payload-gt64.false)
    (pass _ _ _ _ _ (le-leb (7 + length a.payload.now) (length a.out.now) c.if-out-payload.false)
    (ap given c.write.ensures.length))) in
    record { answer = s; area = put a.kind a.payload.now a.out.now _ _ _ s c.write.ensures.length c.write.ensures.area }
