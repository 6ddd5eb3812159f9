-- What each way out of the functions on a group's entry gives, from what the way hands over.
--     pair-full .. pair-both            two rows
--     variable-full .. variable-here    a variable
--     term-full .. term-here            a symbol over rows
-- Assumes nothing.
use mathlib.Core.Bool.{Bool, true, false}
use mathlib.Core.List.{List}
use mathlib.Core.Path.{◌≡◌}
use Prim.Native.Nat.{ℕ, ◌+◌, ◌<◌, ◌≤◌}
use lib.Dec.{ltb}
use borrow.Author.Rules.{rules}
use borrow.Author.Tests.{lt-ltb, le-ltb, ne_eqb, not-true, not-false}
use Rattle.std.specs.Prelude.{Option, Result, Ok, Err}
use Rattle.std.specs.Option.{ok_or}
use Rattle.std.specs.Result.{IsErrAnd}
use Rattle.std.proofs.lemmas.Result.{err_from_is_err_and}
use Rattle.text_lines.specs.Lines.{value_at}
use Rattle.text_lines.specs.Entries.{found_in, term_from}
use Rattle.text_lines.specs.declared.entries.NoRow.{NoRow}
use Rattle.text_lines.specs.declared.entries.Term.{Term}
use Rattle.text_reader.specs.Agree.{clashes_in}
use Rattle.text_reader.specs.Entries.{pair_in, variable_in, term_in, row_of}
use Rattle.text_reader.specs.declared.faults.Fault.{Fault}
use Rattle.text_reader.specs.declared.faults.Fault.TheVariants.{NoRoom, RowMissing, OtherCount}

looked : (o : Option ℕ) (byte n v : ℕ) (r : Result ℕ Fault) → o ≡ found_in n v → r ≡ ok_or o (RowMissing byte) → row_of byte n v ≡ r
looked o byte n v r e q = rw (← e, q)

module _ (text : List ℕ) (at : ℕ) (room : Bool) where
  module _ (n : ℕ) where
    pub pair-full : room ≡ false → Err NoRoom ≡ pair_in text at room n
    unfolding pair_in
    pair-full r = rw r

    module _ (o : Option ℕ) (r : room ≡ true) (e : o ≡ found_in n (value_at text (at + 2))) where
      pub pair_left : (f : Fault) → Err f ≡ ok_or o (RowMissing 2) → Err f ≡ pair_in text at room n
      unfolding pair_in
      pair_left f q = rw (r, looked o 2 n (value_at text (at + 2)) (Err f) e q)

      module _ (p : ℕ) (m : Ok p ≡ ok_or o (RowMissing 2)) (u : Option ℕ) (d : u ≡ found_in n (value_at text (at + 4))) where
        pub pair-right : (f : Fault) → Err f ≡ ok_or u (RowMissing 4) → Err f ≡ pair_in text at room n
        unfolding pair_in
        pair-right f q = rw (r, looked o 2 n (value_at text (at + 2)) (Ok p) e m, looked u 4 n (value_at text (at + 4)) (Err f) d q)

        pub pair-both : (q : ℕ) → Ok q ≡ ok_or u (RowMissing 4) → Ok (record { left = p; right = q }) ≡ pair_in text at room n
        unfolding pair_in
        pair-both q w = rw (r, looked o 2 n (value_at text (at + 2)) (Ok p) e m, looked u 4 n (value_at text (at + 4)) (Ok q) d w)

  pub variable-full : room ≡ false → Err NoRoom ≡ variable_in text at room
  unfolding variable_in
  variable-full r = rw r

  module _ (v w : ℕ) (r : room ≡ true) (e : v ≡ value_at text (at + 2)) (f : w ≡ v) where
    pub variable-here : w < 4 → Ok v ≡ variable_in text at room
    unfolding variable_in
    variable-here h = rw (r, ← e, ← f, lt-ltb _ _ h)

    pub variable-high : 4 ≤ w → Err NoRoom ≡ variable_in text at room
    unfolding variable_in
    variable-high h = rw (r, ← e, ← f, le-ltb _ _ h)

module _ (text : List ℕ) (at count : ℕ) (room : Bool) (n : ℕ) (symbols counts : List ℕ) (m : ℕ) where
  pub term-full : room ≡ false → Err NoRoom ≡ term_in text at count room n symbols counts m
  unfolding term_in
  term-full r = rw r

  pub term-many : (w : ℕ) → room ≡ true → w ≡ count → 4 < w → Err NoRoom ≡ term_in text at count room n symbols counts m
  unfolding term_in
  term-many w r e h = rw (r, ← e, lt-ltb _ _ h)

  module _ (w : ℕ) (r : room ≡ true) (i : w ≡ count) (h : w ≤ 4) where
    few : ltb 4 count ≡ false
    few = rw (← i) (le-ltb 4 w h)

    pub term-missing : (e : NoRow) → Err e ≡ term_from text at count n → (res : Result Term Fault) → IsErrAnd res (λ f. f ≡ RowMissing e.byte)
        → res ≡ term_in text at count room n symbols counts m
    unfolding term_in
    term-missing e p res q = let z = err_from_is_err_and res q in rw (z.1, z.2, r, few, ← p)

    module _ (u : Term) (p : Ok u ≡ term_from text at count n) (k : ℕ) (same : k ≡ u.count) (c : ℕ) (c₀ : c ≡ clashes_in symbols counts u.head k m) where
      pub term-here : c ≡ 0 → Ok u ≡ term_in text at count room n symbols counts m
      unfolding term_in
      term-here z = rw (r, few, ← p, ← same, ← c₀, z)

      pub term-clash : (c ≡ 0 → ⊥) → Err OtherCount ≡ term_in text at count room n symbols counts m
      unfolding term_in
      term-clash z = rw (r, few, ← p, ← same, ← c₀, ne_eqb _ _ z)

pub ruleset mine = (
  rules,
  not-true,
  not-false,
  pair-full,
  pair_left,
  pair-right,
  pair-both,
  variable-full,
  variable-here,
  variable-high,
  term-full,
  term-many,
  term-missing,
  term-here,
  term-clash,
)
