-- What is told of records is the reply to them, and a reply is told in one way only.
--     answers-rows-found                    the number and the places that are told of a reply are those of the answer
--     answers-rows-one                      and no other are
--     no-none-256, no-written-256           256 records are not told none, and no place is written for them
-- Assumes nothing.
use mathlib.Core.List.{List}
use mathlib.Core.Path.{◌≡◌, refl, sym, ap, ◌∙◌}
use Prim.Native.Nat.{ℕ, ◌+◌, ◌*◌}
use native.Mathlib.Omega.{arith}
use borrow.Author.Rules.{rules}
use Rattle.records.specs.declared.ClauseColumns.{ClauseColumns}
use Rattle.records.specs.declared.Row.{Row}
use Rattle.records.specs.declared.Statements.{Statements}
use Rattle.std.specs.Prelude.{Option, Some, None}
use Rattle.replies.specs.declared.Reply.{Reply}
use Rattle.records.specs.Claims.{FindsRows}
use Rattle.records.proofs.Alike.{finds-rows-one}
use Rattle.records.proofs.Controls.{many, some-unfit-256}
use Rattle.boundary.specs.Packs.{Told}
use Rattle.boundary.specs.Rows.{packed_rows, handed_rows, AnswersRows}

pub answers-rows-found : (rows : List Row) (s : Statements) (k : ClauseColumns) (r : Reply) → FindsRows rows s k (Some r)
    → (places : List ℕ) (number : ℕ) (after : List ℕ) → Told r places number after → AnswersRows rows s k places number after
answers-rows-found rows s k r w places number after t = record { reply = Some r; finds = w; packed = t.packed; handed = t.handed }

pub answers-rows-unfit : (rows : List Row) (s : Statements) (k : ClauseColumns) → FindsRows rows s k None → (places : List ℕ) → AnswersRows rows s k places 11 places
answers-rows-unfit rows s k w places = record { reply = None; finds = w; packed = refl; handed = refl }

pub answers-rows-one : (rows : List Row) (s : Statements) (k : ClauseColumns) (places : List ℕ) (m n : ℕ) (l o : List ℕ)
    → AnswersRows rows s k places m l → AnswersRows rows s k places n o → (m ≡ n) × (l ≡ o)
answers-rows-one rows s k places m n l o p q =
    let e : p.reply ≡ q.reply = finds-rows-one rows s k p.reply q.reply p.finds q.finds in (
      p.packed ∙ ap packed_rows e ∙ sym q.packed,
      p.handed ∙ ap (λ (r : Option Reply). handed_rows r places) e ∙ sym q.handed,
    )

-- ---- wrong answers to 256 records

module _ (s : Statements) (k : ClauseColumns) (places after : List ℕ) where
  unfit-256 : (number : ℕ) (p : AnswersRows many s k places number after) → p.reply ≡ None
  unfit-256 number p = finds-rows-one many s k p.reply None p.finds (some-unfit-256 s k)

  pub no-none-256 : AnswersRows many s k places 9 after → ⊥
  no-none-256 p = omega (arith, p.packed, ap packed_rows (unfit-256 9 p))

  pub no-written-256 : (number : ℕ) → (after ≡ places → ⊥) → AnswersRows many s k places number after → ⊥
  no-written-256 number n p = n (p.handed ∙ ap (λ (r : Option Reply). handed_rows r places) (unfit-256 number p))

pub ruleset mine = (rules, answers-rows-found, answers-rows-unfit)
