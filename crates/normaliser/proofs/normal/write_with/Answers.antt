-- `normal::write_with` meets its contract: the sorted keys give the text's size, and where there is room its lines are put.
-- Assumes nothing.
use Rattle.normaliser.proofs.Whole.{mine}
use Rattle.normaliser.proofs.normal.write_with.Goals as goal

pub sorted_keys-n-requires-clause-keyable : goal.sorted_keys-n-requires-clause-keyable
sorted_keys-n-requires-clause-keyable c = search mine

pub text_length-length-requires-clause-rows_fit : goal.text_length-length-requires-clause-rows_fit
text_length-length-requires-clause-rows_fit c = search mine

pub returns-then-lent-length : goal.returns-then-lent-length
returns-then-lent-length c = search mine

pub put_text-requires : goal.put_text-requires
put_text-requires c = search mine

pub returns : goal.returns
returns c = search mine
