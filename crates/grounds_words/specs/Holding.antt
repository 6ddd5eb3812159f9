-- Words and new numbers as the code holds them: two slices that are lent.
--     out_in       the words that are written, and the new numbers
--     Keeps        the same slices are held
--     Becomes      and they hold these
-- Assumes nothing.
use Rattle.std.specs.Prelude.{◌≡◌}
use Rattle.grounds_batches.specs.Sending as S
use Rattle.grounds_batches.specs.Sending.{out_of}
use Rattle.grounds_words.specs.declared.Out.{Out}

abbrev pub out_in : Out → S.Out
out_in o = out_of o.news.now o.next o.steps.now

pub record Keeps (before after : Out) : Type 0 where
  pub words : after.steps.ghost_name ≡ before.steps.ghost_name
  pub numbers : after.news.ghost_name ≡ before.news.ghost_name

pub record Becomes (before after : Out) (o : S.Out) : Type 0 where
  pub keeps : Keeps before after
  pub so : out_in after ≡ o
