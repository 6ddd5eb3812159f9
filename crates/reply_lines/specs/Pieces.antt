-- A text that is written piece by piece into a lent space.
--     low8              a number's low byte
--     most_fields        how many fields a line has at the most
--     Room, LineRoom    there is room for a piece from a place on, or for a line of some fields
--     Put               a piece was stored from a place on; nothing else changed, and the next place is behind it
--     run               some pieces, one after the other
-- Assumes nothing.
use Rattle.std.specs.Prelude.{List, [], ◌++◌, ◌≡◌, ℕ, zero, suc, ◌+◌, ◌*◌, ◌%◌, ◌≤◌, length}
use Rattle.std.proofs.lemmas.List.Edits.{sets}

abbrev pub low8 : ℕ → ℕ
low8 x = x % 256

pub record Room (lent : List ℕ) (at : ℕ) (piece : List ℕ) : Type 0 where
  pub fits : at + length piece ≤ length lent

pub record Put (lent : List ℕ) (at : ℕ) (piece : List ℕ) (next : ℕ) (after : List ℕ) : Type 0 where
  pub place : next ≡ at + length piece
  pub stored : after ≡ sets lent at piece

abbrev pub most_fields : ℕ
most_fields = 8

-- there is room from a place on for the line of n fields
pub record LineRoom (n at : ℕ) (lent : List ℕ) : Type 0 where
  pub few : n ≤ most_fields
  pub room : at + (n * 2 + 1) ≤ length lent

-- n pieces from piece i on
unfoldable pub run : (ℕ → List ℕ) → ℕ → ℕ → List ℕ
run piece i zero = []
run piece i (suc n) = piece i ++ run piece (suc i) n
