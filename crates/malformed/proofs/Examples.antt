-- The tables of examples, each by one computation of the definitions.
use mathlib.Core.Path.{refl}
use Rattle.written_figures.specs.Writing.{first_group, grouped_in, grouped}
use Rattle.text.specs.Search.{before}
use Rattle.printed.specs.Filling.{filled}
use Rattle.met_text.specs.ShownText.{shown_text}
use Rattle.malformed.specs.Messages.{fault_place, fault_line, after_number_sign, mistake_of}
use Rattle.malformed.specs.Examples.{MessagesHold, CellsHold}

pub messages_hold : MessagesHold
unfolding first_group grouped_in grouped before filled shown_text fault_place fault_line after_number_sign mistake_of
messages_hold = refl

pub cells_hold : CellsHold
unfolding before after_number_sign mistake_of
cells_hold = refl
