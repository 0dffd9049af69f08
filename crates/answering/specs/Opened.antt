-- A memory question and what it carries. Assumes nothing.
use Rattle.layer.specs.declared.Question.{Question}
use Rattle.layer.specs.declared.Question.TheVariants.{Reserving}
use Rattle.answering.specs.declared.open_question.MemoryQuestion.{MemoryQuestion}

-- the question that asks for it
abbrev pub reserving : MemoryQuestion → Question
reserving m = Reserving m.chunks m.bytes m.commit m.exclusive m.waiting
