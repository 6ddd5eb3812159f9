-- Each text has one list or one refusal, the finder's, and so one output.
--     lists-one                         a context and a clause have one list
--     listing-one, breaches-one         a text has one answer, and an input one output
--     listing_of, listing-answers       the answer as a computed value, and that it is the answer
-- Assumes nothing.
use mathlib.Core.List.{List}
use mathlib.Core.Path.{◌≡◌, refl, ap, sym, subst}
use Prim.Native.Nat.{ℕ}
use native.Mathlib.Omega.{arith}
use lib.ListN.{length}
use Rattle.meaning.specs.Context.{Context}
use Rattle.meaning.specs.Equality.{Consistent}
use Rattle.meaning.specs.Rules.{Clause, Found, found, nothing}
use Rattle.meaning.specs.Text.{narrow, Limits, Refusal, Read, Reading, faulty, taken, read}
use Rattle.meaning.specs.Replies.{Reply, breach, none, refused, reply_of, Replies, RepliesTo}
use Rattle.meaning.specs.Formed.{Formed}
use Rattle.meaning.specs.Listing.{OwnBreach, Lists, Listing, listed, unlisted, ListingTo, refuses, lists, printed_listing, BreachesPrints, long, replies}
use Rattle.meaning.specs.Following.{differ_by}
use Rattle.meaning.proofs.Promised.{closing-represents}
use Rattle.meaning.proofs.Taken.{read-formed}
use Rattle.meaning.proofs.Computed.{judge, rep_of, reply_on, reply_to}
use Rattle.meaning.proofs.Answered.{reply_to-replies, replies-one, judged-consistent}
use Rattle.meaning.proofs.Listing.{enumerates-one}
use Rattle.meaning.proofs.ListingNext.{every_by, every-lists}

pub lists-one : (c : Context) (k : Clause) (l m : List (List ℕ)) → Lists c k l → Lists c k m → l ≡ m
lists-one c k l m p q = enumerates-one (OwnBreach c k) l m p q

-- ---- one answer

never-refused : (f : Refusal) (r : Found) → refused f ≡ reply_of r → ⊥
never-refused f (found a) e = let z : ◌≡◌ {A = ℕ} 0 1 = cc in omega arith
never-refused f nothing e = let z : ◌≡◌ {A = ℕ} 0 1 = cc in omega arith

pub listing-one : (L : Limits) (text : List ℕ) (r s : Listing) → ListingTo L text r → ListingTo L text s → r ≡ s
listing-one L text r s (refuses f p) (refuses g q) = let e : refused f ≡ refused g = replies-one L text (refused f) (refused g) p q in cc
listing-one L text r s (refuses f p) (lists t e x q l w) = absurd (never-refused f x (replies-one L text (refused f) (reply_of x) p q))
listing-one L text r s (lists t e x q l w) (refuses f p) = absurd (never-refused f x (replies-one L text (refused f) (reply_of x) p q))
listing-one L text r s (lists t e x p l w) (lists u f y q m v) =
    let g : t ≡ u = cc in
    ap listed (lists-one t.ledger.context t.clause l m w (subst (λ (z : Read). Lists z.ledger.context z.clause m) (sym g) v))

pub breaches-one : (L : Limits) (input out other : List ℕ) → BreachesPrints L input out → BreachesPrints L input other → out ≡ other
breaches-one L input out other (long h) (long g) = refl
breaches-one L input out other (long h) (replies g r p) = absurd (omega arith)
breaches-one L input out other (replies h r p) (long g) = absurd (omega arith)
breaches-one L input out other (replies h r p) (replies g s q) = ap printed_listing (listing-one L input r s p q)

-- ---- the answer, computed

unfoldable pub listing_by : Reply → List (List ℕ) → Listing
listing_by (breach a) l = listed l
listing_by none l = listed l
listing_by (refused f) l = unlisted f

abbrev pub all_of : Context → Clause → List (List ℕ)
all_of c k = every_by (differ_by c) c.rows (rep_of c) (length c.rows) k

unfoldable pub listing_on : Reading → Listing
listing_on (faulty f) = unlisted f
listing_on (taken s) = listing_by (judge s.ledger.context s.clause) (all_of s.ledger.context s.clause)

unfoldable pub listing_of : List ℕ → Listing
listing_of text = listing_on (read narrow text)

every-all : (text : List ℕ) (s : Read) → read narrow text ≡ taken s → (r : Found) → Replies narrow text (reply_of r)
    → Lists s.ledger.context s.clause (all_of s.ledger.context s.clause)
every-all text s e r p =
    let f : Formed s.ledger.context s.clause = read-formed narrow text s e in
    let free : Consistent s.ledger.context =
    judged-consistent s.ledger.context s.clause r (subst (λ (x : Reading). RepliesTo x (reply_of r)) e p) in
    every-lists s.ledger.context s.clause f free (rep_of s.ledger.context) (closing-represents s.ledger.context f.fit) (length s.ledger.context.rows) (omega arith)

by-reply : (text : List ℕ) (s : Read) → read narrow text ≡ taken s → (r : Reply) → Replies narrow text r
    → ListingTo narrow text (listing_by r (all_of s.ledger.context s.clause))
unfolding listing_by
by-reply text s e (breach a) p = lists s e (found a) p (all_of s.ledger.context s.clause) (every-all text s e (found a) p)
by-reply text s e none p = lists s e nothing p (all_of s.ledger.context s.clause) (every-all text s e nothing p)
by-reply text s e (refused f) p = refuses f p

pub listing-answers : (text : List ℕ) → ListingTo narrow text (listing_of text)
unfolding listing_of listing_on reply_to reply_on
listing-answers text = go (read narrow text) refl
  where
    reply : (x : Reading) → read narrow text ≡ x → Replies narrow text (reply_on x)
    reply x e = subst (λ (y : Reading). Replies narrow text (reply_on y)) e (reply_to-replies text)

    go : (x : Reading) → read narrow text ≡ x → ListingTo narrow text (listing_on x)
    go (faulty f) e = refuses f (reply (faulty f) e)
    go (taken s) e = by-reply text s e (judge s.ledger.context s.clause) (reply (taken s) e)
