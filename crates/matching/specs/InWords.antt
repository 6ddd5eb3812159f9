-- What is possible, as code holds it: sets in words of 64 bits.
--     possible_of       what the words of the pattern rows and of the variables say is possible
-- Assumes nothing.
use Rattle.std.specs.Prelude.{true, not, ◌||◌, List, ℕ, ◌*◌}
use Rattle.bits.specs.Sets.{bit_at, has}
use Rattle.matching.specs.Possible.{Possible}

-- What `width` words for each pattern row, a word of flags and as many words for each variable say is possible; a row that is not known can be
-- anything, whatever its words hold.
unfoldable pub possible_of : ℕ → List ℕ → ℕ → ℕ → List ℕ → Possible
possible_of width classes known outside candidates =
    record {
      alive = true;
      classes = λ p x. not (bit_at known p) || has classes (p * width) x;
      outside = λ p. not (bit_at known p) || bit_at outside p;
      candidates = λ v x. has candidates (v * width) x;
    }
