-- What each way out of the functions on one line's entry gives, from what the way hands over.
-- Assumes nothing.
use mathlib.Core.List.{List, [], ◌∷◌}
use mathlib.Core.Path.{◌≡◌}
use Prim.Native.Nat.{ℕ, ◌+◌, ◌*◌, ◌<◌, ◌≤◌}
use native.Mathlib.Omega.{arith}
use borrow.Author.Rules.{rules}
use borrow.Author.Tests.{lt-ltb, le-ltb}
use Rattle.std.specs.Prelude.{Option, Some, None, Result, Ok, Err}
use Rattle.std.specs.Option.{ok_or}
use Rattle.text_lines.specs.Lines.{value_at}
use Rattle.text_lines.specs.Entries.{found_in, argument_of, TermLine, TwoFields, symbol_at, term_from}
use Rattle.text_lines.specs.declared.entries.NoRow.{NoRow}
use Rattle.text_lines.proofs.Fields.{value-byte}

module _ (text : List ℕ) (at n : ℕ) where
  pub row_here : (v w : ℕ) → v ≡ value_at text at → w ≡ v → w < n → Some v ≡ found_in n (value_at text at)
  row_here v w e f h = rw (← e, lt-ltb v n (omega arith))

  pub row-none : (v w : ℕ) → v ≡ value_at text at → w ≡ v → n ≤ w → ◌≡◌ {A = Option ℕ} None (found_in n (value_at text at))
  row-none v w e f h = rw (← e, le-ltb v n (omega arith))

  pub argument-here : (k i j count : ℕ) (o : Option ℕ) (r : Result ℕ NoRow) → k < count → i ≡ k → j ≡ 8 + i * 2 → o ≡ found_in n (value_at text (at + j))
      → r ≡ ok_or o (record { byte = 8 + i * 2 }) → r ≡ argument_of text at k count n
  unfolding argument_of
  argument-here k i j count o r h e f g q = let z : at + j ≡ at + 8 + k * 2 = omega arith in rw (q, g, z, e, lt-ltb _ _ h)

  pub argument-past : (k count : ℕ) → count ≤ k → Ok 0 ≡ argument_of text at k count n
  unfolding argument_of
  argument-past k count h = rw (le-ltb _ _ h)

pub symbol-is : (text : List ℕ) (at v w : ℕ) → v ≡ value_at text at → w ≡ value_at text (at + 2) → v * 256 + w ≡ symbol_at text at
unfolding symbol_at
symbol-is text at v w e f = rw (← e, ← f)

module _ (text : List ℕ) (at count n : ℕ) where
  pub term-first : (e : NoRow) → Err e ≡ argument_of text at 0 count n → Err e ≡ term_from text at count n
  unfolding term_from
  term-first e p = rw (← p)

  module _ (a : ℕ) (p : Ok a ≡ argument_of text at 0 count n) where
    pub term-second : (e : NoRow) → Err e ≡ argument_of text at 1 count n → Err e ≡ term_from text at count n
    unfolding term_from
    term-second e q = rw (← p, ← q)

    module _ (b : ℕ) (q : Ok b ≡ argument_of text at 1 count n) where
      pub term-third : (e : NoRow) → Err e ≡ argument_of text at 2 count n → Err e ≡ term_from text at count n
      unfolding term_from
      term-third e r = rw (← p, ← q, ← r)

      module _ (c : ℕ) (r : Ok c ≡ argument_of text at 2 count n) where
        pub term-fourth : (e : NoRow) → Err e ≡ argument_of text at 3 count n → Err e ≡ term_from text at count n
        unfolding term_from
        term-fourth e s = rw (← p, ← q, ← r, ← s)

        pub term-all : (d s : ℕ) → Ok d ≡ argument_of text at 3 count n → s ≡ symbol_at text (at + 2)
            → Ok (record { head = s; count = count; places = a ∷ b ∷ c ∷ d ∷ [] }) ≡ term_from text at count n
        unfolding term_from
        term-all d s t z = rw (← p, ← q, ← r, ← t, ← z)

pub symbol-digits : (text : List ℕ) (at end count : ℕ) → TermLine text at end count → TwoFields text (at + 2)
symbol-digits text at end count t =
    let g = t.legible in
    let e = t.size in
    record {
      inside = omega (arith, g.inside);
      high = value-byte text at end g (at + 2) (omega arith) (omega arith);
      low = value-byte text at end g (at + 2 + 2) (omega arith) (omega arith);
    }

pub ruleset mine = (
  rules,
  row_here,
  row-none,
  argument-here,
  argument-past,
  symbol-is,
  symbol-digits,
  term-first,
  term-second,
  term-third,
  term-fourth,
  term-all,
)
