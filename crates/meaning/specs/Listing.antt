-- Every breach on the page: the list of the breaches whose rows are all representatives, and what the program prints for a text.
--     OwnRows, OwnBreach           each row is its own representative: no lower row is equal to it; a breach of such rows
--     Enumerates, Lists            a list of just the assignments that are so, each before the next; the list of all such breaches
--     Goes                         going on from what was found, each time to what is next, until nothing is
--     Listing, ListingTo           the list that a text gets, or the finder's refusal
--     lines_of, BreachesPrints      an `08` line for each and then `09`; what the program prints for an input
-- Assumes nothing.
use Rattle.std.specs.Prelude.{List, [], ◌∷◌, ◌++◌, ◌≡◌, ◌⊎◌, ℕ, ◌≤◌, ◌<◌, length}
use Rattle.meaning.specs.Context.{Context}
use Rattle.meaning.specs.Equality.{Lowest}
use Rattle.meaning.specs.Rules.{Clause, Breach, range_of, Before, Found, found, nothing}
use Rattle.meaning.specs.Text.{Limits, Refusal, Read, taken, read}
use Rattle.meaning.specs.Replies.{breach, none, refused, refusal, reply_of, Replies, printed, input_limit}

-- ---- the list

abbrev pub OwnRows : Context → List ℕ → Type 0
OwnRows c [] = Unit {0}
OwnRows c (i ∷ a) = Lowest c i i × OwnRows c a

pub record OwnBreach (c : Context) (k : Clause) (a : List ℕ) : Type 0 where
  pub breaches : Breach c (range_of c) k a
  pub own : OwnRows c a

abbrev pub Member : List ℕ → List (List ℕ) → Type 0
Member a [] = ⊥
Member a (b ∷ l) = (a ≡ b) ⊎ Member a l

-- each stands before the next
abbrev pub InOrder : List (List ℕ) → Type 0
InOrder [] = Unit {0}
InOrder (a ∷ []) = Unit {0}
InOrder (a ∷ b ∷ l) = Before a b × InOrder (b ∷ l)

pub record Enumerates (So : List ℕ → Type 0) (l : List (List ℕ)) : Type 0 where
  pub sound : (a : List ℕ) → Member a l → So a
  pub complete : (a : List ℕ) → So a → Member a l
  pub order : InOrder l

abbrev pub Lists : Context → Clause → List (List ℕ) → Type 0
Lists c k l = Enumerates (OwnBreach c k) l

pub data Goes (next : List ℕ → Found) : Found → List (List ℕ) → Type 0 where
  ends : Goes next nothing []
  goes : (a : List ℕ) (l : List (List ℕ)) → Goes next (next a) l → Goes next (found a) (a ∷ l)

-- ---- the program

pub data Listing : Type 0 where
  listed : List (List ℕ) → Listing
  unlisted : Refusal → Listing

-- refused as the finder refuses; where the finder gives a breach or none, the list
pub data ListingTo (L : Limits) (text : List ℕ) : Listing → Type 0 where
  refuses : (f : Refusal) → Replies L text (refused f) → ListingTo L text (unlisted f)
  lists : (s : Read) → read L text ≡ taken s → (r : Found) → Replies L text (reply_of r)
      → (l : List (List ℕ)) → Lists s.ledger.context s.clause l → ListingTo L text (listed l)

unfoldable pub lines_of : List (List ℕ) → List ℕ
lines_of [] = printed none
lines_of (a ∷ l) = printed (breach a) ++ lines_of l

unfoldable pub printed_listing : Listing → List ℕ
printed_listing (listed l) = lines_of l
printed_listing (unlisted f) = printed (refused f)

pub data BreachesPrints (L : Limits) (input : List ℕ) : List ℕ → Type 0 where
  long : input_limit < length input → BreachesPrints L input (printed_listing (unlisted (refusal 11 0)))
  replies : length input ≤ input_limit → (r : Listing) → ListingTo L input r → BreachesPrints L input (printed_listing r)
