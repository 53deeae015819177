-- `text::words::hex_of` meets its contract: the word's run as a number. Assumes nothing.
use mathlib.Core.Path.{◌∙◌, ap}
use Rattle.text.specs.Words.{hex_done}
use Rattle.text.proofs.Runs.{hex_whole}
use Rattle.text.proofs.words.hex_of.Goals as goal

pub returns : goal.returns
returns c = c.hex_done.ensures ∙ ap hex_done c.run_of.ensures ∙ hex_whole _
