-- What the functions for other languages claim of the number that they return and of the caller's space.
--     rows_after    the caller's four rows after a reply: those of a breach, else as they were
--     Answers      the finder's reply to a text
--     Proceeds     its reply to a text and an assignment
--     Settles      the normaliser's answer, and the lent space afterwards
-- Assumes nothing.
use Rattle.std.specs.Prelude.{List, ◌≡◌, ℕ}
use Rattle.meaning.specs.Text.{narrow}
use Rattle.meaning.specs.Replies.{Reply, breach, none, refused, places_of, Replies, Written, Writes}
use Rattle.meaning.specs.Packing.{packed_reply, packed_written}
use Rattle.finder.specs.Later.{FollowsTo}

unfoldable pub rows_after : Reply → List ℕ → List ℕ
rows_after (breach a) rows = places_of (breach a)
rows_after none rows = rows
rows_after (refused r) rows = rows

pub record Answers (text rows : List ℕ) (number : ℕ) (after : List ℕ) : Type 0 where
  pub reply : Reply
  pub replies : Replies narrow text reply
  pub packed : number ≡ packed_reply reply
  pub handed : after ≡ rows_after reply rows

-- the caller's rows are the assignment
pub record Proceeds (text rows : List ℕ) (number : ℕ) (after : List ℕ) : Type 0 where
  pub reply : Reply
  pub replies : FollowsTo text rows reply
  pub packed : number ≡ packed_reply reply
  pub handed : after ≡ rows_after reply rows

pub record Settles (text lent : List ℕ) (number : ℕ) (after : List ℕ) : Type 0 where
  pub answer : Written
  pub writes : Writes narrow text lent answer after
  pub packed : number ≡ packed_written answer
