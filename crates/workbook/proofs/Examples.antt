-- The table of examples, by one computation of the definitions.
use mathlib.Core.Path.{refl}
use lib.Ieee.{of_bits, of_int}
use Rattle.floats.specs.WholeNumbers.{whole_number}
use Rattle.method.specs.QuestionParts.{questions_5_to_9}
use Rattle.method.proofs.Examples.{computed}
use Rattle.workbook.specs.Workbook.{amounts_of}
use Rattle.workbook.specs.Pairs.{pairs}
use Rattle.workbook.specs.Questions.{kinds_known, numbers_whole, blanks_missing, question_11, question_12, question_13, workbook_lengths_right, workbook_questions}
use Rattle.workbook.specs.Answers.{filled_in_pairs, workbook_answer}
use Rattle.workbook.specs.Examples.{ExamplesHold}

pub examples_hold : ExamplesHold
unfolding of_bits of_int whole_number questions_5_to_9 computed amounts_of pairs kinds_known numbers_whole blanks_missing question_11 question_12 question_13 workbook_lengths_right workbook_questions filled_in_pairs workbook_answer
examples_hold = refl
