-- Words, as the code makes them.
--     mine   what the functions of `words` leave to show
-- Assumes nothing.
use mathlib.Core.List.{List}
use mathlib.Core.Path.{◌≡◌, ap, sym, ◌∙◌, subst}
use Prim.Native.Nat.{ℕ, ◌+◌, ◌-◌, ◌*◌, ◌≤◌, ◌<◌}
use native.Mathlib.Omega.{arith}
use lib.ListN.{get_or}
use borrow.Author.Rules.{rules}
use borrow.Author.Tests.{lt-ltb, le-ltb, eq-eqb, ne_eqb}
use Rattle.grounds_laws.specs.Draft.{ref_of}
use Rattle.grounds_batches.specs.Sending.{new_of, new_in, word_in}
use Rattle.grounds_words.specs.Emitting.{MarkOf, RowOf}

module _ (news : List ℕ) (r : ℕ) where
  pub new_none : r ≡ 0 → 0 ≡ new_of news r
  unfolding new_of
  new_none z = rw (eq-eqb r 0 z, new_of)

  pub new-at : (r ≡ 0 → ⊥) → {q : ℕ} → q ≡ get_or news r 0 → q ≡ new_of news r
  unfolding new_of
  new-at d e = rw (ne_eqb r 0 d, new_of) e

module _ (news : List ℕ) (kind r : ℕ) where
  pub new-plain : kind ≤ 2 → {q : ℕ} → q ≡ r → q ≡ new_in news kind r
  unfolding new_in
  new-plain h e = rw (le-ltb 2 kind h, new_in) e

  pub new-cites : {q : ℕ} → 2 < kind → q ≡ new_of news r → q ≡ new_in news kind r
  unfolding new_in
  new-cites h e = e ∙ sym (rw (lt-ltb 2 kind h, new_in))

module _ (rows x : ℕ) {i : ℕ} where
  pub mark-context : i < rows → i ≡ x → MarkOf rows x 0
  unfolding ref_of
  mark-context h e = record { value = rw (lt-ltb x rows (subst (λ (j : ℕ). j < rows) e h), ref_of); most = omega arith }

  pub mark-pattern : rows ≤ i → i ≡ x → MarkOf rows x 1
  unfolding ref_of
  mark-pattern h e = record { value = rw (le-ltb x rows (subst (λ (j : ℕ). rows ≤ j) e h), ref_of); most = omega arith }

  pub row-context : i < rows → i ≡ x → i < 65536 → RowOf rows x i
  unfolding ref_of
  row-context h e l = record { value = rw (lt-ltb x rows (subst (λ (j : ℕ). j < rows) e h), ref_of) e; most = l }

  pub row-pattern : rows ≤ i → i ≡ x → i < 65536 → RowOf rows x (i - rows)
  unfolding ref_of
  row-pattern h e l = record { value = rw (le-ltb x rows (subst (λ (j : ℕ). rows ≤ j) e h), ref_of) (ap (λ (j : ℕ). j - rows) e); most = omega arith }

pub word-in : (rows owner kind x y : ℕ) {o k mark row mark' row' : ℕ} → o ≡ owner → k ≡ kind → MarkOf rows x mark → RowOf rows x row → MarkOf rows y mark' → RowOf rows y row'
    → o * 72057594037927936 + k * 281474976710656 + (mark * 1099511627776 + row * 16777216) + (mark' * 65536 + row') ≡ word_in rows owner kind x y
word-in rows owner kind x y c e f g h l = rw (sym c, sym e, sym f.value, sym g.value, sym h.value, sym l.value) (omega arith)

pub ruleset mine = (
  rules,
  new_none,
  new-at,
  new-plain,
  new-cites,
  mark-context,
  mark-pattern,
  row-context,
  row-pattern,
  word-in,
)
