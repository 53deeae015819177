-- `decimals::numbers::number_of` meets its contract, by the mark that stands first. Assumes nothing.
use Rattle.std.proofs.Common.{sym, arith, length-take-le}
use Rattle.decimals.proofs.Words.{word_empty, word_bits, word_decimal, word_quotient, word_whole}
use Rattle.decimals.proofs.numbers.number_of.Goals as goal

pub returns-then-word-eq0 : goal.returns-then-word-eq0
returns-then-word-eq0 c = word_empty _ c.if-word-eq0.true

pub returns-then-word-eq120 : goal.returns-then-word-eq120
returns-then-word-eq120 c = word_bits _ _ c.if-word-eq0.false c.if-word-eq120.true c.bits.ensures

pub returns-in-Some : goal.returns-in-Some
returns-in-Some c = word_decimal _ _ c.if-word-eq0.false c.if-word-eq120.false _ c.find.ensures.place _ c.in-Some.is c.decimal.ensures

pub returns-in-Some-find : goal.returns-in-Some-find
returns-in-Some-find c = word_quotient _ _ c.if-word-eq0.false c.if-word-eq120.false _ c.find.ensures.place c.in_default.is _ c.find-2.ensures.place _ c.in-Some-find.is c.quotient_of.ensures

pub returns : goal.returns
returns c = word_whole _ _ c.if-word-eq0.false c.if-word-eq120.false _ c.find.ensures.place c.in_default.is _ c.find-2.ensures.place c.in_default-find.is c.whole.ensures
