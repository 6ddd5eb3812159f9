-- The value of one pattern row.
--     value-given .. value-symbol      what a row asks, by its kind
--     Listing, listing-start .. -done  the values of the first arguments of a row
--     term-variable, term-symbol       a variable, and a symbol over the values of its arguments
--     mine                             what the functions leave to show
-- Assumes nothing.
use mathlib.Core.Bool.{Bool, true, false}
use borrow.Author.Tests.{eqb-true, eqb-false}
use lib.Dec.{eqb}
use mathlib.Core.List.{List, [], ◌∷◌, ◌++◌, map-append}
use mathlib.Core.Path.{◌≡◌, refl, sym, ap, ap₂, ◌∙◌}
use Prim.Native.Nat.{ℕ, ◌+◌, ◌*◌, ◌≤◌, ◌<◌}
use native.Mathlib.Omega.{arith}
use native.Mathlib.Numerals.{add-one}
use borrow.Author.Rules.{rules}
use lib.ListN.{length, get_or, set, take, length-set, length-take}
use lib.Seq.{take_all, take-suc, take-suc-set}
use Rattle.meaning.specs.Context.{Row}
use Rattle.meaning.specs.Values.{pattern₀, number_at, args_of, number_of}
use Rattle.runs.specs.Limits.{pattern_size, arg_places}
use Rattle.runs.specs.Runs.{pattern_count, pattern_kind_in, head_in, pattern_count_in, pattern_arg_in, pattern_args_in, patterns_of}
use Rattle.runs.proofs.Saying.{patterns-at, pattern-variable, pattern-symbol, arg-at, args-length}
use Rattle.search_plan.specs.Steps.{ArgsFit}
use Rattle.search_values.specs.Reading.{SymbolFit, VariableFit, Asked, look_of, term_of}

-- ---- what a row asks

module _ (rows table keys patterns order : List ℕ) (read places row : ℕ) (k : Bool) (a : Asked rows table keys patterns order read places) (h : row < pattern_count patterns)
    (e : k ≡ eqb (pattern_kind_in patterns row) 4) where
  pub value-given : k ≡ true → VariableFit patterns row
  value-given is = record { inside = h; low = (a.reading.rule.placed.each row h).variable (eqb-true (pattern_kind_in patterns row) 4 (sym e ∙ is)) }

  module _ (n : k ≡ false) where
    pub value-args : ArgsFit patterns places row
    value-args =
        record { inside = h; known = omega (arith, a.reading.valued); placed = (a.reading.rule.placed.each row h).symbol (eqb-false (pattern_kind_in patterns row) 4 (sym e ∙ n)) }

    pub value-symbol : SymbolFit patterns row
    value-symbol =
        record { few = omega (arith, a.reading.rule.few); inside = h; symbol = eqb-false (pattern_kind_in patterns row) 4 (sym e ∙ n); placed = (a.reading.rule.placed.each row h).symbol (eqb-false (pattern_kind_in patterns row) 4 (sym e ∙ n)) }

    pub value-room : (m : ℕ) (args : List ℕ) → m ≡ pattern_count_in patterns row → length args ≡ arg_places → m ≤ length args
    value-room m args em l = omega (arith, value-args.placed.few)

pub front-long : (m : ℕ) (args : List ℕ) → m ≤ length args → m ≡ length (take m args)
front-long m args h = omega (arith, length-take m args)

-- ---- the values of the arguments

pub record Listing (patterns values : List ℕ) (row n : ℕ) (args : List ℕ) (k : ℕ) : Type 0 where
  pub count : n ≡ pattern_count_in patterns row
  pub long : length args ≡ arg_places
  pub same : take k args ≡ args_of values (take k (pattern_args_in patterns row))

module _ (patterns values : List ℕ) (row : ℕ) (f : ArgsFit patterns (length values) row) where
  given : length (pattern_args_in patterns row) ≡ pattern_count_in patterns row
  given = args-length patterns (row * pattern_size + 3) (pattern_count_in patterns row) (omega (arith, f.inside)) f.placed.few

  pub listing-start : (n : ℕ) (args : List ℕ) → n ≡ pattern_count_in patterns row → length args ≡ arg_places → Listing patterns values row n args 0
  listing-start n args e l = record { count = e; long = l; same = refl }

  module _ (n k : ℕ) (args : List ℕ) (p : Listing patterns values row n args k) where
    pub listing-inside : k < n → k < pattern_count_in patterns row
    listing-inside h = omega (arith, p.count)

    pub listing-place : k < n → k < length args
    listing-place h = omega (arith, p.count, p.long, f.placed.few)

    pub listing-next : (v m : ℕ) → k < n → v ≡ number_at values (pattern_arg_in patterns row k) → m ≡ k + 1 → Listing patterns values row n (set args k v) m
    listing-next v m h e em =
        record {
          count = p.count;
          long = length-set args k v ∙ p.long;
          same =
              rw (em, add-one k)
              (take-suc-set args k v (listing-place h)
              ∙ ap₂ (λ (l : List ℕ) (x : ℕ). l ++ (x ∷ [])) p.same (e ∙ ap (number_at values) (sym here))
              ∙ sym (map-append (number_at values) (take k (pattern_args_in patterns row)) (get_or (pattern_args_in patterns row) k 0 ∷ []))
              ∙ ap (args_of values) (sym (take-suc (pattern_args_in patterns row) k 0 (omega (arith, given, p.count)))));
        }
      where
        here : get_or (pattern_args_in patterns row) k 0 ≡ pattern_arg_in patterns row k
        here = arg-at patterns (row * pattern_size + 3) (pattern_count_in patterns row) k (omega (arith, p.count)) f.placed.few

    pub listing-done : n ≤ k → k ≤ n → take (pattern_count_in patterns row) args ≡ args_of values (pattern_args_in patterns row)
    listing-done h l =
        let q : pattern_count_in patterns row ≡ k = omega (arith, p.count) in
        ap (λ (x : ℕ). take x args) q ∙ p.same ∙ ap (args_of values) (take_all k (pattern_args_in patterns row) (omega (arith, given, p.count)))

-- ---- one row

module _ (rows : List Row) (rep : ℕ → ℕ) (patterns order chosen values : List ℕ) (read row : ℕ) (k : Bool) (h : row < pattern_count patterns) (e : k ≡ eqb (pattern_kind_in patterns row) 4) where
  pub term-variable : (x : ℕ) → k ≡ true → x ≡ get_or chosen (head_in patterns row) 0
      → x ≡ term_of rows rep (patterns_of patterns) order chosen values read row
  unfolding term_of number_of
  term-variable x is q = rw (term_of, patterns-at patterns row pattern₀ h, pattern-variable patterns row (eqb-true (pattern_kind_in patterns row) 4 (sym e ∙ is))) q

  pub term-symbol : (x n : ℕ) (args : List ℕ) → k ≡ false → n ≡ pattern_count_in patterns row → take (pattern_count_in patterns row) args ≡ args_of values (pattern_args_in patterns row)
      → x ≡ look_of rows rep (patterns_of patterns) (head_in patterns row) (take n args) values (take read order) row
      → x ≡ term_of rows rep (patterns_of patterns) order chosen values read row
  unfolding term_of number_of
  term-symbol x n args d en y q =
      rw (term_of, patterns-at patterns row pattern₀ h, pattern-symbol patterns row (eqb-false (pattern_kind_in patterns row) 4 (sym e ∙ d)))
      (rw (en, y) at q)

pub ruleset mine = (rules, value-given, value-args, value-symbol, value-room, front-long, listing-start, listing-inside, listing-place, listing-next, listing-done, term-variable, term-symbol)
