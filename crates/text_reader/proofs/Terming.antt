-- A legible line with a symbol over rows: what the function on it answers is what the tests of such a line say.
--     TermIs, TermVerdict    an answer agrees with the number of the first test that fails and with the byte that it names
--     gated                  an answer, after the test of refusal 7
--     term-verdict           they do
-- Assumes nothing.
use mathlib.Core.Bool.{Bool, true, false, ◌&&◌, cond}
use mathlib.Core.List.{List, [], ◌∷◌}
use mathlib.Core.Path.{◌≡◌, refl, sym, ◌∙◌}
use Prim.Native.Nat.{ℕ, zero, suc, ◌+◌, ◌-◌, ◌*◌, ◌<◌, ◌≤◌}
use native.Mathlib.Omega.{arith}
use native.Mathlib.Nat.{suc-sub-suc, sub-zero, le_of_suc-le-suc, not-suc-le-zero}
use lib.Dec.{eqb, ltb, leb}
use lib.ListN.{length, get_or, drop, length-append, length-replicate, length-drop}
use lib.Seq.{get_or-drop}
use borrow.Author.Tests.{ltb-true, ltb-false, le-leb, lt-leb}
use Rattle.std.specs.Prelude.{Result, Ok, Err}
use Rattle.meaning.specs.Text as M
use Rattle.meaning.specs.Text.{Kind, Entry, Read, narrow, symbol_in, entry_of, known, sized, ranked, refers, no_row, named_by, table_of, agrees, Spot, nowhere, first_failing, is_nowhere, spot_or, names_from, bad_field, offset_of, tests_of, first_fault}
use Rattle.meaning.specs.Columns.{pad}
use Rattle.text_lines.specs.Given.{given}
use Rattle.text_lines.specs.Lines.{Legible, value_at}
use Rattle.text_lines.specs.Entries.{row_from, argument_of, symbol_at, term_from}
use Rattle.text_lines.specs.declared.entries.NoRow.{NoRow}
use Rattle.text_lines.specs.declared.entries.Term.{Term}
use Rattle.text_lines.proofs.Fields.{fields-count, field-at}
use Rattle.text_reader.specs.Agree.{clashes_in}
use Rattle.text_reader.specs.Entries.{rows_named, agreeing, term_in}
use Rattle.text_reader.specs.Faults.{number_of, byte_of}
use Rattle.text_reader.specs.Kinds.{fields_at}
use Rattle.text_reader.specs.Lines.{kind_in, entry_in, fault_in, offset_for, Stopped}
use Rattle.text_reader.specs.declared.faults.Fault.{Fault}
use Rattle.text_reader.specs.declared.faults.Fault.TheVariants.{NoRoom, OtherCount}
use Rattle.text_reader.proofs.Pairing.{missing, all_in, spot-small}
use Rattle.text_reader.proofs.Turn.{offset-first, stopped-first, legible-line}

pad-length : (n : ℕ) (l : List ℕ) → length l ≤ n → length (pad n l) ≡ n
unfolding pad
pad-length n l h = simp (length-append, length-replicate) (omega arith)

-- the answer t is the symbol f over the rows a
pub record TermIs (f : ℕ) (a : List ℕ) (t : Term) : Type 0 where
  pub head : t.head ≡ f
  pub count : t.count ≡ length a
  pub args : pad 4 a ≡ t.places
  pub long : length t.places ≡ 4

abbrev pub TermVerdict : ℕ → List ℕ → Result Term Fault → ℕ → (ℕ → ℕ) → Type 0
TermVerdict f a (Ok t) m offset = (m ≡ 0) × TermIs f a t
TermVerdict f a (Err x) m offset = Stopped m offset (number_of x) (byte_of x)

abbrev pub gated : (ℕ → ℕ → Bool) → Result Term Fault → Result Term Fault
gated agree (Ok t) = cond (agree t.head t.count) (Ok t) (Err OtherCount)
gated agree (Err x) = Err x

agree-gated : (clashes : ℕ → ℕ → ℕ) (agree : ℕ → ℕ → Bool) → ((f k : ℕ) → eqb (clashes f k) 0 ≡ agree f k) → (t : Result Term Fault) → agreeing clashes t ≡ gated agree t
agree-gated clashes agree h (Ok t) = rw (h t.head t.count)
agree-gated clashes agree h (Err x) = refl

-- at most d rows, one after the other from argument i on, and then zeros
collect : ℕ → ℕ → List ℕ → ℕ → (List ℕ → Result Term NoRow) → Result Term NoRow
collect zero i a n next = next []
collect (suc d) i [] n next = collect d i [] n (λ l. next (0 ∷ l))
collect (suc d) i (p ∷ a) n next = given (row_from ((4 + i) * 2) n p) (λ v. collect d (suc i) a n (λ l. next (v ∷ l)))

pad-nil : (d : ℕ) → pad (suc d) [] ≡ 0 ∷ pad d []
unfolding pad
pad-nil d = rw (sub-zero, sub-zero)

pad-cons : (d p : ℕ) (a : List ℕ) → pad (suc d) (p ∷ a) ≡ p ∷ pad d a
unfolding pad
pad-cons d p a = rw suc-sub-suc

-- all of them are there, or the first that is missing is refused
reached : Spot → Result Term NoRow → Result Term NoRow
reached z t = cond (is_nowhere z) t (Err (record { byte = (4 + spot_or 0 z) * 2 }))

collect-all : (d i : ℕ) (a : List ℕ) (n : ℕ) (next : List ℕ → Result Term NoRow) → length a ≤ d
    → collect d i a n next ≡ reached (first_failing (λ r. ltb r n) i a) (next (pad d a))
unfolding first_failing is_nowhere spot_or pad collect reached
collect-all zero i [] n next h = refl
collect-all zero i (p ∷ a) n next h = absurd (not-suc-le-zero h)
collect-all (suc d) i [] n next h = collect-all d i [] n (λ l. next (0 ∷ l)) (omega arith) ∙ rw pad-nil
collect-all (suc d) i (p ∷ a) n next h = go (ltb p n) refl (collect-all d (suc i) a n (λ l. next (p ∷ l)) (le_of_suc-le-suc h))
  where
    go : (t : Bool) → ltb p n ≡ t
        → collect d (suc i) a n (λ l. next (p ∷ l)) ≡ reached (first_failing (λ r. ltb r n) (suc i) a) (next (p ∷ pad d a))
        → collect (suc d) i (p ∷ a) n next ≡ reached (first_failing (λ r. ltb r n) i (p ∷ a)) (next (pad (suc d) (p ∷ a)))
    go true e r = rw (e, first_failing, pad-cons) r
    go false e r = rw (e, first_failing)

abbrev placed : ℕ → ℕ → List ℕ → Term
placed f n l = record { head = f; count = n; places = l }

module _ (text : List ℕ) (at n : ℕ) where
  term-collect : (a : List ℕ) → length a ≤ 4 → ((k : ℕ) → k < length a → value_at text (at + 8 + k * 2) ≡ get_or a k 0)
      → term_from text at (length a) n ≡ collect 4 0 a n (λ l. Ok (placed (symbol_at text (at + 2)) (length a) l))
  unfolding term_from argument_of collect
  term-collect [] h v = refl
  term-collect (p ∷ []) h v = rw (v 0 (omega arith))
  term-collect (p ∷ q ∷ []) h v = rw (v 0 (omega arith), v 1 (omega arith))
  term-collect (p ∷ q ∷ r ∷ []) h v = rw (v 0 (omega arith), v 1 (omega arith), v 2 (omega arith))
  term-collect (p ∷ q ∷ r ∷ s ∷ []) h v = rw (v 0 (omega arith), v 1 (omega arith), v 2 (omega arith), v 3 (omega arith))
  term-collect (p ∷ q ∷ r ∷ s ∷ t ∷ a) h v = absurd (omega arith)

module _ (f : ℕ) (a : List ℕ) (agree : ℕ → ℕ → Bool) (few : length a ≤ 4) where
  named-verdict : (z : Spot) (offset : ℕ → ℕ) → offset 6 ≡ (4 + spot_or 0 z) * 2 → offset 7 ≡ 0
      → TermVerdict f a (gated agree (rows_named (reached z (Ok (placed f (length a) (pad 4 a))))))
      (first_fault 1 (true ∷ true ∷ true ∷ true ∷ true ∷ is_nowhere z ∷ agree f (length a) ∷ [])) offset
  unfolding first_fault is_nowhere reached
  named-verdict nowhere offset six seven = go (agree f (length a)) refl
    where
      go : (y : Bool) → agree f (length a) ≡ y
          → TermVerdict f a (gated agree (Ok (placed f (length a) (pad 4 a)))) (first_fault 1 (true ∷ true ∷ true ∷ true ∷ true ∷ true ∷ agree f (length a) ∷ [])) offset
      go true e = rw e (refl, record { head = refl; count = refl; args = refl; long = pad-length 4 a few })
      go false e = rw e record { number = refl; byte = seven; some = omega arith }
  named-verdict (M.at i) offset six seven = record { number = refl; byte = six; some = omega arith }

-- what a kind of line has to be for its lines to have a symbol over rows
pub record TermKind (l : List ℕ) (s : Read) (k : Kind) (mk : ℕ → List ℕ → Entry) (n : ℕ) (room : Bool) (agree : ℕ → ℕ → Bool) : Type 0 where
  pub entry : entry_of k l ≡ mk (symbol_in l) (drop 4 l)
  pub ranks : (f : ℕ) (a : List ℕ) → ranked (mk f a) s ≡ true
  pub rooms : (f : ℕ) (a : List ℕ) → M.room narrow (mk f a) s ≡ room && leb (length a) 4
  pub names : (f : ℕ) (a : List ℕ) → named_by (mk f a) ≡ a
  pub from : (f : ℕ) (a : List ℕ) → names_from (mk f a) ≡ 4
  pub table : (f : ℕ) (a : List ℕ) → table_of (mk f a) s ≡ n
  pub agrees : (f : ℕ) (a : List ℕ) → agrees (mk f a) s ≡ agree f (length a)

module _ (text : List ℕ) (at end : ℕ) (g : Legible text at end) (s : Read) (k : Kind) (mk : ℕ → List ℕ → Entry) (n : ℕ) (room : Bool)
    (agree : ℕ → ℕ → Bool) (knows : known (fields_at text at end) ≡ true) (kind : kind_in text at end ≡ k) (size : sized k (fields_at text at end) ≡ true)
    (count : ℕ) (d : end - at ≡ 8 + count * 2) (is : TermKind (fields_at text at end) s k mk n room agree) where
  abbrev args : List ℕ
  args = drop 4 (fields_at text at end)

  abbrev symbol : ℕ
  symbol = symbol_in (fields_at text at end)

  refers-is : (f : ℕ) (a : List ℕ) → refers (mk f a) s ≡ all_in n a
  unfolding refers no_row
  refers-is f a = rw (is.names f a, is.table f a)

  fault-is : fault_in text at end s ≡ first_fault 1 (true ∷ true ∷ true ∷ true ∷ (room && leb (length args) 4) ∷ all_in n args ∷ agree symbol (length args) ∷ [])
  unfolding tests_of
  fault-is =
      rw (
        kind,
        is.entry,
        legible-line text at end g,
        knows,
        size,
        is.ranks symbol args,
        is.rooms symbol args,
        refers-is symbol args,
        is.agrees symbol args,
      )

  pub term-entry : entry_in text at end ≡ mk symbol args
  term-entry = rw kind is.entry

  bad-field : bad_field (mk symbol args) s ≡ (4 + spot_or 0 (missing n args)) * 2
  unfolding bad_field no_row
  bad-field = rw (is.from symbol args, is.names symbol args, is.table symbol args)

  offset-six : length args ≤ 4 → offset_for text at end s 6 ≡ (4 + spot_or 0 (missing n args)) * 2
  unfolding offset_for offset_of
  offset-six few = rw (term-entry, bad-field) (let h = spot-small (λ r. ltb r n) 0 args in omega arith)

  args-length : length args ≡ count
  args-length = let c = fields-count text at end g in simp length-drop (omega arith)

  symbol-is : symbol ≡ symbol_at text (at + 2)
  unfolding symbol_at
  symbol-is =
      let e : at + 2 + 2 ≡ at + 4 = omega arith in
      rw (field-at text at end g 1 (omega arith), field-at text at end g 2 (omega arith), e)

  args_at_lem : (i : ℕ) → i < length args → value_at text (at + 8 + i * 2) ≡ get_or args i 0
  args_at_lem i b =
      let c = args-length in
      let e : at + (4 + i) * 2 ≡ at + 8 + i * 2 = omega arith in
      sym (get_or-drop 4 (fields_at text at end) i 0 ∙ field-at text at end g (4 + i) (omega arith) ∙ rw e)

  abbrev tested : Bool → Bool → Result Term Fault
  tested r b = cond r (cond b (Err NoRoom) (rows_named (term_from text at count n))) (Err NoRoom)

  abbrev Verdict : Bool → Bool → Type 0
  Verdict r b = TermVerdict symbol args (gated agree (tested r b)) (fault_in text at end s) (offset_for text at end s)

  full : room ≡ false → (b : Bool) → Verdict false b
  unfolding first_fault
  full r b = rw (fault-is, r) (stopped-first text at end s 5 5 refl refl refl (omega arith))

  many : room ≡ true → 4 < count → Verdict true true
  unfolding first_fault
  many r b =
      let c : 4 < length args = omega (arith, args-length) in
      rw (fault-is, r, lt-leb (length args) 4 c) (stopped-first text at end s 5 5 refl refl refl (omega arith))

  named : room ≡ true → count ≤ 4 → Verdict true false
  named r b =
      let c : length args ≤ 4 = omega (arith, args-length) in
      let f = term-collect text at n args c args_at_lem ∙ collect-all 4 0 args n (λ l. Ok (placed (symbol_at text (at + 2)) (length args) l)) c in
      rw (fault-is, r, le-leb (length args) 4 c, ← args-length, f, symbol-is)
      (named-verdict (symbol_at text (at + 2)) args agree c (missing n args) (offset_for text at end s) (offset-six c) (offset-first text at end s 7 refl refl))

  by_tests : (r : Bool) → room ≡ r → (b : Bool) → ltb 4 count ≡ b → Verdict r b
  by_tests false e b f = full e b
  by_tests true e true f = many e (ltb-true 4 count f)
  by_tests true e false f = named e (ltb-false 4 count f)

  pub term-verdict : (symbols counts : List ℕ) (m : ℕ) → ((f h : ℕ) → eqb (clashes_in symbols counts f h m) 0 ≡ agree f h)
      → TermVerdict symbol args (term_in text at count room n symbols counts m) (fault_in text at end s) (offset_for text at end s)
  unfolding term_in
  term-verdict symbols counts m u = rw (agree-gated (λ f h. clashes_in symbols counts f h m) agree u (tested room (ltb 4 count))) (by_tests room refl (ltb 4 count) refl)
