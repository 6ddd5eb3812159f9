-- What the normaliser answers to a text that was read and closed.
--     normalise-refused, normalise-clash      the reader's refusal; refusal 9
--     normalise-writable, normalise-written   else the runs that were read can be written, and what is written is the normal text
--     normalise-one                           two answers to one text and one lent space are equal
--     mine                                    what the functions above the writer leave to show
-- Assumes nothing.
use mathlib.Core.List.{List, [], ◌∷◌}
use mathlib.Core.Path.{◌≡◌, refl, sym, ap, subst, subst₂, ◌∙◌}
use Prim.Native.Nat.{ℕ, suc, ◌≤◌, ◌<◌}
use native.Mathlib.Omega.{arith}
use native.Mathlib.Numerals.{add-one}
use borrow.Author.Rules.{rules}
use lib.ListN.{length}
use Rattle.meaning.specs.Context.{Context}
use Rattle.meaning.specs.Equality.{rep_at}
use Rattle.meaning.specs.Text as M
use Rattle.meaning.specs.Text.{narrow, faulty, taken, read}
use Rattle.meaning.specs.Replies.{Normalised, Settled, contradicts, normal, abnormal, refusal, Leaves, stays, Writes, NormalisesTo}
use Rattle.meaning.proofs.Apartness.{clash-first}
use Rattle.meaning.proofs.Answered.{settles-by, writes_one}
use Rattle.runs.specs.Limits.{most_rows, most_statements}
use Rattle.runs.specs.Fit.{FitContext}
use Rattle.runs.proofs.Saying.{length-rows}
use Rattle.replies.specs.Told.{meant}
use Rattle.replies.specs.declared.Refusal.{Refusal}
use Rattle.text_runs.specs.Reads.{told_by, told_of, read_of}
use Rattle.std.specs.Prelude.{Some, None, Result, Ok, Err}
use Rattle.text_runs.specs.declared.Told.{Told}
use Rattle.classes.specs.Claims.{clashing}
use Rattle.ruling.specs.Claims.{rows_in, said_in, context_in, ClosesText}
use Rattle.ruling.specs.Order.{contradicted_by}
use Rattle.ruling.specs.declared.Closed.{Closed}
use Rattle.ruling.proofs.Saying.{rows_inside, said-inside, told-context, told_fit}
use Rattle.ruling.proofs.Ruling.{closed-low}
use Rattle.normaliser.specs.Claims.{written_by, WritesNormal}
use Rattle.normaliser.specs.Normals.{normal_text, Writable}

module _ (text : List ℕ) (r : Closed) (h : ClosesText text r) where
  abbrev t : Told
  t = r.told

  fit : FitContext most_rows most_statements (rows_in t) (said_in t)
  fit = told_fit text t h.told

  -- ---- refused

  told_same : (x : Refusal) → t.answer ≡ Err x → (y : M.Reading) → read narrow text ≡ y → x.number ∷ x.line ∷ x.offset ∷ [] ≡ told_of y
  told_same x e y q = sym (ap told_by e) ∙ h.told.told ∙ ap told_of q

  pub normalise-refused : (lent : List ℕ) (x : Refusal) → t.answer ≡ Err x → Writes narrow text lent (written_by (Err x)) lent
  normalise-refused lent x e = go (read narrow text) refl
    where
      go : (y : M.Reading) → read narrow text ≡ y → Writes narrow text lent (written_by (Err x)) lent
      go (faulty f) q =
          let v : x.number ∷ x.line ∷ x.offset ∷ [] ≡ f.number ∷ f.place ∷ f.offset ∷ [] = told_same x e (faulty f) q in
          let n : x.number ≡ f.number = cc in
          let p : x.line ≡ f.place = cc in
          let o : x.offset ≡ f.offset = cc in
          record { result = abnormal f; normalises = subst (λ (z : M.Reading). NormalisesTo z (abnormal f)) (sym q) refl; leaves = rw (n, p, o) (stays f) }
      go (taken s) q =
          absurd (let v : x.number ∷ x.line ∷ x.offset ∷ [] ≡ [] = told_same x e (taken s) q in let z : ◌≡◌ {A = ℕ} 0 1 = cc in omega arith)

  -- ---- taken

  pub clash-low : (n : ℕ) → r.clash ≡ Some n → n < most_statements
  clash-low = (closed-low text r h).low

  pub normalise-rows : t.filled.rows ≤ length t.rows
  normalise-rows = rows_inside text t h.told

  pub normalise-said : t.filled.said ≤ length t.said
  normalise-said = said-inside text t h.told

  pub normalise-writable : (rs ss : List ℕ) → rs ≡ rows_in t → ss ≡ said_in t → Writable rs ss r.table
  normalise-writable rs ss er es =
      let e = length-rows (rows_in t) in
      rw (er, es)
      record {
        fit = fit;
        tabled = record {
          long = omega (arith, h.closed.long, fit.rows_few);
          reps = λ i b. omega (arith, (h.closed.rows i (omega (arith, e))).row, e);
        };
      }

  module _ (whole : t.answer ≡ Ok tt) where
    -- what is answered to the context that the runs say is answered to the text
    settled-writes : (lent after : List ℕ) (w : Result ℕ Refusal) (n : Normalised) → Settled (context_in t) n → Leaves lent n (written_by w) after
        → Writes narrow text lent (written_by w) after
    settled-writes lent after w n s l = record { result = n; normalises = go (read narrow text) refl; leaves = l }
      where
        go : (y : M.Reading) → read narrow text ≡ y → NormalisesTo (read narrow text) n
        go (taken v) q =
            let e : context_in t ≡ v.ledger.context = told-context text t h.told ∙ ap (λ (z : M.Reading). (read_of z).ledger.context) q in
            subst (λ (z : M.Reading). NormalisesTo z n) (sym q) (subst (λ (c : Context). Settled c n) e s)
        go (faulty f) q =
            absurd (let v : [] ≡ f.number ∷ f.place ∷ f.offset ∷ [] = sym (ap told_by whole) ∙ h.told.told ∙ ap told_of q in
            let z : ◌≡◌ {A = ℕ} 0 1 = cc in omega arith)

    pub normalise-clash : (lent : List ℕ) (n : ℕ) → r.clash ≡ Some n → (x : Refusal) → x ≡ contradicted_by n → Writes narrow text lent (written_by (Err x)) lent
    normalise-clash lent n e x q =
        rw q
        (settled-writes lent lent (Err (contradicted_by n)) (abnormal (refusal 9 (suc n)))
        (contradicts n (clash-first (context_in t) fit.fit (rep_at r.table) h.closed.rows n (sym h.clashes ∙ ap clashing e)))
        (rw (add-one n) (stays (refusal 9 (suc n)))))

    pub normalise-written : (rs ss : List ℕ) → rs ≡ rows_in t → ss ≡ said_in t → (lent after : List ℕ) (w : Result ℕ Refusal) → r.clash ≡ None
        → WritesNormal rs ss r.table lent w after → Writes narrow text lent (written_by w) after
    unfolding normal_text
    normalise-written rs ss er es lent after w e l =
        settled-writes lent after w (normal (normal_text (rows_in t) (said_in t) r.table))
        (settles-by (context_in t) fit.fit (rep_at r.table) h.closed.rows (sym h.clashes ∙ ap clashing e))
        (subst₂ (λ (a b : List ℕ). WritesNormal a b r.table lent w after) er es l)

-- ---- one answer

written-by-one : (r s : Result ℕ Refusal) → written_by r ≡ written_by s → r ≡ s
written-by-one (Ok n) (Ok m) e = cc
written-by-one (Ok n) (Err y) e = absurd (let z : ◌≡◌ {A = ℕ} 0 1 = cc in omega arith)
written-by-one (Err x) (Ok m) e = absurd (let z : ◌≡◌ {A = ℕ} 0 1 = cc in omega arith)
written-by-one (Err x) (Err y) e =
    let q : meant x ≡ meant y = cc in
    let n : x.number ≡ y.number = ap (λ (r : M.Refusal). r.number) q in
    let l : x.line ≡ y.line = ap (λ (r : M.Refusal). r.place) q in
    let o : x.offset ≡ y.offset = ap (λ (r : M.Refusal). r.offset) q in
    ap Err (rw (n, l, o))

pub normalise-one : (text lent a b : List ℕ) (r s : Result ℕ Refusal) → Writes narrow text lent (written_by r) a → Writes narrow text lent (written_by s) b → (r ≡ s) × (a ≡ b)
normalise-one text lent a b r s p q =
    let w : (written_by r ≡ written_by s) × (a ≡ b) = writes_one narrow text lent (written_by r) (written_by s) a b p q in
    (written-by-one r s w.0, w.1)

pub ruleset mine = (
  rules,
  normalise-refused,
  clash-low,
  normalise-clash,
  normalise-rows,
  normalise-said,
  normalise-writable,
  normalise-written,
)
