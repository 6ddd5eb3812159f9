-- What the normaliser claims of its answers.
--     written_by       the normaliser's answer as a value of `meaning`
--     WritesNormal    the answer to runs with a table of representatives, and the lent space afterwards
--     normal_limit     the most bytes that a normal text has
-- Assumes nothing.
use Rattle.std.specs.Prelude.{List, ℕ, Result, Ok, Err}
use Rattle.meaning.specs.Replies as M
use Rattle.meaning.specs.Replies.{normal, Leaves}
use Rattle.replies.specs.Told.{meant}
use Rattle.normaliser.specs.Normals.{normal_text}
use Rattle.replies.specs.declared.Refusal.{Refusal}

abbrev pub written_by : Result ℕ Refusal → M.Written
written_by (Ok n) = M.wrote n
written_by (Err x) = M.unwritten (meant x)

abbrev pub WritesNormal : List ℕ → List ℕ → List ℕ → List ℕ → Result ℕ Refusal → List ℕ → Type 0
WritesNormal rows said table lent r after = Leaves lent (normal (normal_text rows said table)) (written_by r) after

abbrev pub normal_limit : ℕ
normal_limit = 7898
