use Rattle.std.proofs.Common.{refl}
use Rattle.restool.proofs.request.answer.Goals as goal

-- ---- the answer is that of the command

pub returns-in-Rows-clause-answers : goal.returns-in-Rows-clause-answers
returns-in-Rows-clause-answers g c = rw c.in-Rows.is c.answer.ensures.answers

pub returns-in-Dump-clause-answers : goal.returns-in-Dump-clause-answers
returns-in-Dump-clause-answers g c = rw c.in-Dump.is c.answer-in-Dump.ensures.answers

pub returns-in-Map-clause-answers : goal.returns-in-Map-clause-answers
returns-in-Map-clause-answers g c = rw c.in-Map.is c.answer-in-Map.ensures.answers

pub returns-in-Ids-clause-answers : goal.returns-in-Ids-clause-answers
returns-in-Ids-clause-answers g c = rw c.in-Ids.is c.answer-in-Ids.ensures.answers

pub returns-in-Survey-clause-answers : goal.returns-in-Survey-clause-answers
returns-in-Survey-clause-answers g c = rw c.in-Survey.is c.answer-in-Survey.ensures.answers

pub returns-in-Show-clause-answers : goal.returns-in-Show-clause-answers
returns-in-Show-clause-answers g c = rw c.in-Show.is c.answer-in-Show.ensures.answers

pub returns-in-Query-clause-answers : goal.returns-in-Query-clause-answers
returns-in-Query-clause-answers g c = rw c.in-Query.is c.answer-in-Query.ensures.answers

pub returns-in-Explain-clause-answers : goal.returns-in-Explain-clause-answers
returns-in-Explain-clause-answers g c = rw c.in-Explain.is c.answer-in-Explain.ensures.answers

pub returns-in-Bag-clause-answers : goal.returns-in-Bag-clause-answers
returns-in-Bag-clause-answers g c = rw c.in-Bag.is c.answer-in-Bag.ensures.answers

pub returns-in-Attr-clause-answers : goal.returns-in-Attr-clause-answers
returns-in-Attr-clause-answers g c = rw c.in-Attr.is c.answer-in-Attr.ensures.answers

pub returns-in-Make-clause-answers : goal.returns-in-Make-clause-answers
returns-in-Make-clause-answers g c = rw c.in-Make.is c.answer-in-Make.ensures.answers

pub returns-in-Check-clause-answers : goal.returns-in-Check-clause-answers
returns-in-Check-clause-answers g c = rw c.in-Check.is c.answer-in-Check.ensures.answers

pub returns-in-Diff-clause-answers : goal.returns-in-Diff-clause-answers
returns-in-Diff-clause-answers g c = rw c.in-Diff.is c.answer-in-Diff.ensures.answers

pub returns-in-Values-clause-answers : goal.returns-in-Values-clause-answers
returns-in-Values-clause-answers g c = rw c.in-Values.is c.answer-in-Values.ensures.answers

pub returns-in-Unused-clause-answers : goal.returns-in-Unused-clause-answers
returns-in-Unused-clause-answers g c = rw c.in-Unused.is c.answer-in-Unused.ensures.answers

pub returns-in-Device-clause-answers : goal.returns-in-Device-clause-answers
returns-in-Device-clause-answers g c = rw c.in-Device.is c.answer-in-Device.ensures.answers

-- ---- nothing is written where there is no answer

pub returns-in-Rows-clause-unwritten : goal.returns-in-Rows-clause-unwritten
returns-in-Rows-clause-unwritten g c = c.answer.ensures.unwritten

pub returns-in-Dump-clause-unwritten : goal.returns-in-Dump-clause-unwritten
returns-in-Dump-clause-unwritten g c = c.answer-in-Dump.ensures.unwritten

pub returns-in-Map-clause-unwritten : goal.returns-in-Map-clause-unwritten
returns-in-Map-clause-unwritten g c = c.answer-in-Map.ensures.unwritten

pub returns-in-Ids-clause-unwritten : goal.returns-in-Ids-clause-unwritten
returns-in-Ids-clause-unwritten g c = c.answer-in-Ids.ensures.unwritten

pub returns-in-Survey-clause-unwritten : goal.returns-in-Survey-clause-unwritten
returns-in-Survey-clause-unwritten g c = c.answer-in-Survey.ensures.unwritten

pub returns-in-Show-clause-unwritten : goal.returns-in-Show-clause-unwritten
returns-in-Show-clause-unwritten g c = c.answer-in-Show.ensures.unwritten

pub returns-in-Query-clause-unwritten : goal.returns-in-Query-clause-unwritten
returns-in-Query-clause-unwritten g c = c.answer-in-Query.ensures.unwritten

pub returns-in-Explain-clause-unwritten : goal.returns-in-Explain-clause-unwritten
returns-in-Explain-clause-unwritten g c = c.answer-in-Explain.ensures.unwritten

pub returns-in-Bag-clause-unwritten : goal.returns-in-Bag-clause-unwritten
returns-in-Bag-clause-unwritten g c = c.answer-in-Bag.ensures.unwritten

pub returns-in-Attr-clause-unwritten : goal.returns-in-Attr-clause-unwritten
returns-in-Attr-clause-unwritten g c = c.answer-in-Attr.ensures.unwritten

pub returns-in-Make-clause-unwritten : goal.returns-in-Make-clause-unwritten
returns-in-Make-clause-unwritten g c = c.answer-in-Make.ensures.unwritten

pub returns-in-Check-clause-unwritten : goal.returns-in-Check-clause-unwritten
returns-in-Check-clause-unwritten g c = c.answer-in-Check.ensures.unwritten

pub returns-in-Diff-clause-unwritten : goal.returns-in-Diff-clause-unwritten
returns-in-Diff-clause-unwritten g c = c.answer-in-Diff.ensures.unwritten

pub returns-in-Values-clause-unwritten : goal.returns-in-Values-clause-unwritten
returns-in-Values-clause-unwritten g c = c.answer-in-Values.ensures.unwritten

pub returns-in-Unused-clause-unwritten : goal.returns-in-Unused-clause-unwritten
returns-in-Unused-clause-unwritten g c = c.answer-in-Unused.ensures.unwritten

pub returns-in-Device-clause-unwritten : goal.returns-in-Device-clause-unwritten
returns-in-Device-clause-unwritten g c = c.answer-in-Device.ensures.unwritten

-- ---- what errors get

pub returns-in-Rows-clause-shows : goal.returns-in-Rows-clause-shows
returns-in-Rows-clause-shows g c = rw c.in-Rows.is refl

pub returns-in-Dump-clause-shows : goal.returns-in-Dump-clause-shows
returns-in-Dump-clause-shows g c = rw c.in-Dump.is refl

pub returns-in-Ids-clause-shows : goal.returns-in-Ids-clause-shows
returns-in-Ids-clause-shows g c = rw c.in-Ids.is refl

pub returns-in-Survey-clause-shows : goal.returns-in-Survey-clause-shows
returns-in-Survey-clause-shows g c = rw c.in-Survey.is refl

pub returns-in-Show-clause-shows : goal.returns-in-Show-clause-shows
returns-in-Show-clause-shows g c = rw c.in-Show.is refl

pub returns-in-Query-clause-shows : goal.returns-in-Query-clause-shows
returns-in-Query-clause-shows g c = rw c.in-Query.is refl

pub returns-in-Explain-clause-shows : goal.returns-in-Explain-clause-shows
returns-in-Explain-clause-shows g c = rw c.in-Explain.is refl

pub returns-in-Bag-clause-shows : goal.returns-in-Bag-clause-shows
returns-in-Bag-clause-shows g c = rw c.in-Bag.is refl

pub returns-in-Attr-clause-shows : goal.returns-in-Attr-clause-shows
returns-in-Attr-clause-shows g c = rw c.in-Attr.is refl

pub returns-in-Make-clause-shows : goal.returns-in-Make-clause-shows
returns-in-Make-clause-shows g c = rw c.in-Make.is (λ plain. (c.answer-in-Make.ensures.quiet plain, c.answer-in-Make.ensures.unsaid plain))

pub returns-in-Check-clause-shows : goal.returns-in-Check-clause-shows
returns-in-Check-clause-shows g c = rw c.in-Check.is (c.answer-in-Check.ensures.quiet, c.answer-in-Check.ensures.unsaid)

pub returns-in-Diff-clause-shows : goal.returns-in-Diff-clause-shows
returns-in-Diff-clause-shows g c = rw c.in-Diff.is refl

pub returns-in-Values-clause-shows : goal.returns-in-Values-clause-shows
returns-in-Values-clause-shows g c = rw c.in-Values.is refl

pub returns-in-Unused-clause-shows : goal.returns-in-Unused-clause-shows
returns-in-Unused-clause-shows g c = rw c.in-Unused.is refl

pub returns-in-Device-clause-shows : goal.returns-in-Device-clause-shows
returns-in-Device-clause-shows g c = rw c.in-Device.is refl
