-- One line: what the functions on it ask, and what stands after it.
--     stands-noted .. steps-on        a legible line whose end was found
--     steps-illegible, steps-refused  a line with a fault
--     moved-stands, moved-less        the next line, further on
--     ends-refused, ends-taken        where the reading ends
-- Assumes nothing.
use mathlib.Core.List.{List}
use mathlib.Core.Path.{◌≡◌, refl}
use Prim.Native.Nat.{ℕ, ◌+◌, ◌<◌}
use native.Mathlib.Omega.{arith}
use lib.ListN.{length}
use borrow.Author.Rules.{rules}
use Rattle.std.specs.Prelude.{Result, Ok, Err}
use Rattle.std.specs.Result.{IsErrAnd}
use Rattle.std.proofs.lemmas.Result.{err_from_is_err_and}
use Rattle.text_lines.specs.Lines.{Legible, LineAt}
use Rattle.text_lines.specs.declared.lines.Illegible as I
use Rattle.text_reader.specs.Agree.{Noted}
use Rattle.text_reader.specs.Lines.{EntryIs, Stands, Reached, reached, Steps}
use Rattle.text_reader.specs.Pieces.{with_entry, Fits}
use Rattle.text_reader.specs.State.{passed_to, after, Within}
use Rattle.text_reader.specs.declared.entries.Entry.{Entry}
use Rattle.text_reader.specs.declared.entries.Entry.TheVariants as E
use Rattle.text_reader.specs.declared.faults.Fault.{Fault}
use Rattle.text_reader.specs.declared.faults.Fault.TheVariants as F
use Rattle.text_reader.specs.declared.pieces.Pieces.{Pieces}
use Rattle.text_reader.specs.declared.state.State.{State}
use Rattle.text_reader.proofs.Standing.{stand-noted, stand-fits, stand-next, stop-illegible, stop-refused}

after-at : (e : Entry) (s : State) → (after e s).at ≡ s.at
after-at (E.Row t) s = refl
after-at (E.Equation p) s = refl
after-at (E.Difference p) s = refl
after-at (E.Variable v) s = refl
after-at (E.Symbol t) s = refl
after-at (E.Equal p) s = refl
after-at (E.Unequal p) s = refl

pub steps-illegible : {text : List ℕ} {s : State} {r : Pieces} → Stands text s r → (e : I.Illegible) → LineAt text s.at (Err e) → (x : Result State Fault)
    → IsErrAnd x (λ f. f ≡ F.Illegible e.byte) → Steps text s x r
steps-illegible {text} {s} {r} h e p x i = let z = err_from_is_err_and x i in rw (z.1, z.2) (stop-illegible text s r h e.byte p)

pub line-inside : (text : List ℕ) (at end : ℕ) → LineAt text at (Ok end) → end < length text
line-inside text at end g = g.inside

module _ {text : List ℕ} {end : ℕ} {s : State} {r : Pieces} where
  pub line-reached : Stands text s r → LineAt text s.at (Ok end) → Reached text end s r
  line-reached h g = reached h g

  stands : Reached text end s r → Stands text s r
  stands (reached h g) = h

  pub reached-legible : Reached text end s r → Legible text s.at end
  reached-legible (reached h g) = g

  module _ (z : Reached text end s r) where
    pub reached-noted : Noted r.symbols r.counts s.terms
    reached-noted = stand-noted text s r (stands z)

    pub reached-within : Within s
    reached-within = (stands z).within

    pub steps-refused : {f : Fault} → EntryIs text end s r.symbols r.counts (Err f) → (x : Result State Fault) → IsErrAnd x (λ e. e ≡ f) → Steps text s x r
    steps-refused {f} y x i =
        let w = err_from_is_err_and x i in rw (w.1, w.2) (stop-refused text s r (stands z) end (reached-legible z) f y)

    module _ {e : Entry} (y : EntryIs text end s r.symbols r.counts (Ok e)) where
      pub reached-fits : Fits e s r
      reached-fits = stand-fits text s r (stands z) end (reached-legible z) e y

      pub steps-on : {n : State} {r' : Pieces} → n ≡ after e (passed_to s (end + 1)) → r' ≡ with_entry e s r → Steps text s (Ok n) r'
      steps-on {n} {r'} i j =
          let g = reached-legible z in
          rw (i, j) record { stands = stand-next text s r (stands z) end g e y; further = rw (after-at e (passed_to s (end + 1))) (omega (arith, g.from)) }

pub ruleset mine = (rules, steps-illegible, line-inside, line-reached, reached-legible, reached-noted, reached-within, reached-fits, steps-on, steps-refused)
