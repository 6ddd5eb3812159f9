-- The pieces are the program's whole output.
--     every-pieces, every-ends    over any table: the pieces are the lines of all that is sought, and with rooms of 13 bytes or more they end
--     list-pieces                 over a table of representatives, where the context does not contradict itself: the lines of the list
--     text-pieces                 for a text that the finder answers: what the program has to print
-- Assumes nothing.
use mathlib.Core.List.{List}
use mathlib.Core.Path.{◌≡◌, sym, ap, subst, subst₂, ◌∙◌}
use Prim.Native.Nat.{ℕ, suc, ◌≤◌}
use native.Mathlib.Omega.{arith}
use lib.ListN.{length}
use Rattle.meaning.specs.Context.{Context}
use Rattle.meaning.specs.Equality.{rep_at, Consistent, Representatives}
use Rattle.meaning.specs.Rules.{Clause, Found}
use Rattle.meaning.specs.Text.{narrow, Read, taken, read}
use Rattle.meaning.specs.Replies.{breach, reply_of, places_of, input_limit, Replies}
use Rattle.meaning.specs.Listing.{Lists, Goes, lines_of, listed, lists, printed_listing, BreachesPrints, replies}
use Rattle.meaning.specs.Following.{differ_by}
use Rattle.meaning.proofs.ListingNext.{every_by, every-goes, every-lists}
use Rattle.meaning.proofs.ListingPrints.{lists-one}
use Rattle.search.specs.Finding.{found_by}
use Rattle.listing.specs.Filling.{Fitted, start_state, Pieces}
use Rattle.listing.proofs.Pieces.{onward, placed-front, start-comes, pieces-lines, pieces_end}

-- ---- over any table

module _ (c : Context) (t : List ℕ) (k : Clause) where
  abbrev pub all_sought : List (List ℕ)
  all_sought = every_by (differ_by c) c.rows (rep_at t) 65536 k

  goes-sought : Goes (onward c t k) (found_by c t k) all_sought
  goes-sought = every-goes (differ_by c) c.rows (rep_at t) 65536 k (λ a. places_of (breach a)) placed-front

  module _ (fitted : Fitted c k) (room : ℕ → ℕ) where
    pub every-pieces : (i : ℕ) (out : List ℕ) → Pieces c t k room i start_state out → out ≡ lines_of all_sought
    every-pieces i out p = pieces-lines c t k room i start_state out (found_by c t k) all_sought p (start-comes c t k fitted) goes-sought

    pub every-ends : ((i : ℕ) → 13 ≤ room i) → (out : List ℕ) × Pieces c t k room 0 start_state out
    every-ends h = pieces_end c t k room h (suc (length all_sought)) all_sought (omega arith) 0 start_state (found_by c t k) (start-comes c t k fitted) goes-sought

-- ---- over a table of representatives

module _ (c : Context) (t : List ℕ) (k : Clause) (fitted : Fitted c k) (free : Consistent c)
    (represents : Representatives c (rep_at t)) where
  pub sought-lists : Lists c k (all_sought c t k)
  sought-lists = every-lists c k fitted.formed free (rep_at t) represents 65536 (omega (arith, fitted.rows_few))

  pub list-pieces : (l : List (List ℕ)) → Lists c k l → (room : ℕ → ℕ) (i : ℕ) (out : List ℕ) → Pieces c t k room i start_state out → out ≡ lines_of l
  list-pieces l p room i out q =
      every-pieces c t k fitted room i out q ∙ ap lines_of (lists-one c k (all_sought c t k) l sought-lists p)

  -- ---- for a text that says the context and the rule, and that the finder answers by a breach or none
  pub text-pieces : (input : List ℕ) → length input ≤ input_limit → (s : Read) → read narrow input ≡ taken s → c ≡ s.ledger.context → k ≡ s.clause
      → (r : Found) → Replies narrow input (reply_of r) → (room : ℕ → ℕ) (i : ℕ) (out : List ℕ) → Pieces c t k room i start_state out
      → BreachesPrints narrow input out
  unfolding printed_listing
  text-pieces input few s e p q r w room i out y =
      let l : List (List ℕ) = all_sought c t k in
      let f : Lists s.ledger.context s.clause l = subst₂ (λ (x : Context) (y : Clause). Lists x y l) p q sought-lists in
      subst (BreachesPrints narrow input) (sym (every-pieces c t k fitted room i out y)) (replies few (listed l) (lists s e r w l f))
