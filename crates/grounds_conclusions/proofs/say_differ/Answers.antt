-- `grounds_conclusions::say_differ` meets its contract. Copied, closed further, and said of the first difference whose sides have one label.
-- Assumes nothing.
use Rattle.grounds_conclusions.proofs.Sayings.{saying}
use Rattle.grounds_conclusions.proofs.say_differ.Goals as goal

pub returns : goal.returns
returns c = search saying
