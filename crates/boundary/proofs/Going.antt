-- A caller who begins with the first breach and goes on, each time from the four rows handed over, until there is none, gets the list of all breaches
-- made of representatives, each once and in order. A context with a breach or none does not contradict itself.
--     first-own                    the first breach is made of representatives
--     follows-goes, goes-lists     going on gives the list, and what it gives is the list
-- Assumes nothing.
use mathlib.Core.List.{List}
use mathlib.Core.Path.{◌≡◌, sym, subst}
use Prim.Native.Nat.{ℕ, ◌-◌}
use native.Mathlib.Omega.{arith}
use lib.ListN.{length, take, replicate}
use lib.Seq.{take_at}
use Rattle.meaning.specs.Context.{Context}
use Rattle.meaning.specs.Equality.{Consistent, Representatives}
use Rattle.meaning.specs.Rules.{Clause, variables, Before, First, Found, Answers}
use Rattle.meaning.specs.FirstBy.{first_by}
use Rattle.meaning.specs.Formed.{Formed}
use Rattle.meaning.specs.Replies.{breach, places_of}
use Rattle.meaning.specs.Listing.{OwnBreach, Lists, Goes}
use Rattle.meaning.specs.Following.{differ_by}
use Rattle.meaning.proofs.Computed.{rep_of}
use Rattle.meaning.proofs.Computes.{computed-first}
use Rattle.meaning.proofs.Finds.{answers_one}
use Rattle.meaning.proofs.Order.{same_first}
use Rattle.meaning.proofs.Promised.{closing-represents}
use Rattle.meaning.proofs.Listing.{Nexts, enumerates-goes, goes-enumerates}
use Rattle.meaning.proofs.ListingNext.{first-sought, own-sought}
use Rattle.finder.specs.Later.{FollowsIn}

module _ (c : Context) (k : Clause) (formed : Formed c k) (free : Consistent c) where
  represents : Representatives c (rep_of c)
  represents = closing-represents c formed.fit

  pub first-own : (r : Found) → Answers c k r → First (OwnBreach c k) r
  first-own r w =
      let n : ℕ = length c.rows in
      let f : Found = first_by (differ_by c) c.rows (rep_of c) n k in
      let e : r ≡ f = answers_one c k r f w (computed-first c k formed free (rep_of c) represents n (omega arith)) in
      subst (First (OwnBreach c k)) (sym e)
      (same_first (own-sought c k formed free (rep_of c) represents n (omega arith)) f (first-sought (differ_by c) c.rows (rep_of c) n k))

  module _ (onward : List ℕ → Found) (each : (a : List ℕ) → FollowsIn c k (places_of (breach a)) (onward a)) where
    placed-front : (a : List ℕ) → length a ≡ variables k.patterns → take (variables k.patterns) (places_of (breach a)) ≡ a
    unfolding places_of
    placed-front a h = take_at a (replicate (4 - length a) 255) (variables k.patterns) h

    nexts-own : Nexts (OwnBreach c k) (variables k.patterns) onward
    nexts-own =
        record {
          long = λ a s. s.breaches.long;
          first = λ a s.
              subst (λ (z : List ℕ). First (λ b. OwnBreach c k b × Before z b) (onward a)) (placed-front a s.breaches.long) (each a);
        }

    pub follows-goes : (r : Found) → Answers c k r → (l : List (List ℕ)) → Lists c k l → Goes onward r l
    follows-goes r w l p = enumerates-goes (variables k.patterns) onward (OwnBreach c k) nexts-own r (first-own r w) l p

    pub goes-lists : (r : Found) → Answers c k r → (l : List (List ℕ)) → Goes onward r l → Lists c k l
    goes-lists r w l g = goes-enumerates (variables k.patterns) onward (OwnBreach c k) nexts-own r (first-own r w) l g
