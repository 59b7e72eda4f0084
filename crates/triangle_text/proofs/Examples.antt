-- The table of examples, by one computation of the definitions.
use mathlib.Core.Path.{refl}
use Rattle.exact_sums.specs.Exact.{fits, exact_of}
use Rattle.figures.specs.Reading.{value_after, whole_of, number_of, figure_of}
use Rattle.text.specs.Search.{before, from}
use Rattle.text.specs.Lines.{whole_lines, before_comment, lines}
use Rattle.line_parts.specs.Cells.{separator_in, without_last_spaces, trimmed}
use Rattle.line_parts.specs.Words.{word, is_word}
use Rattle.line_kinds.specs.Kinds.{is_either, heading_of, begins_heading, kind_of}
use Rattle.headings.specs.Places.{from_heading, number_after_lines, rows_in, number_after, is_cumulated}
use Rattle.heading_faults.specs.Faults.{is_number, is_no_word, says_how, amount_words, cut_words, cell_words, no_words, fault_after}
use Rattle.row_text.specs.Rows.{numbers_from}
use Rattle.method.specs.Tests.{years_in_range, cut_in_range}
use Rattle.blocks.specs.Blocks.{block_from, default_row, default_from}
use Rattle.triangle_text.specs.Reading.{lists_wanted, triangle_under, weights_under, cell_in, asked_in, lists_in, with_headings, reading_of, without_mark, reading}
use Rattle.triangle_text.specs.Examples.{TextsHold}

pub texts_hold : TextsHold
unfolding fits exact_of value_after whole_of number_of figure_of before from whole_lines before_comment lines separator_in without_last_spaces trimmed word is_word is_either heading_of begins_heading kind_of from_heading number_after_lines rows_in number_after is_cumulated is_number is_no_word says_how amount_words cut_words cell_words no_words fault_after numbers_from years_in_range cut_in_range block_from default_row default_from lists_wanted triangle_under weights_under cell_in asked_in lists_in with_headings reading_of without_mark reading
texts_hold = refl
