-- What the one search finds in drafts of which no two are of one entry, and what is drafted by it.
use Rattle.std.proofs.Common.{◌≡◌, ℕ, zero, suc, ◌<◌, ◌≤◌, List, [], ◌∷◌, ◌++◌, length, get_or, set, Some, None, Ok, Option, Result, sym, refl, subst, arith}
use Rattle.std.specs.Option.{option_map}
use Rattle.std.specs.Prelude.{IsTrue, ◌==◌, if◌then◌else◌}
use Rattle.cards.specs.Cards.{blank_card}
use Rattle.cards.specs.declared.card.Card.{Card}
use Rattle.cards.specs.declared.draft.Draft.{Draft}
use Rattle.cards.specs.declared.refusal.Refusal.{Refusal}
use Rattle.keepers.specs.Lists.{Last}
use Rattle.rules.specs.Seat.{Seat, draft_of, with_draft, draft}
use Rattle.rules.specs.declared.limits.TheConstants.{MOST_DRAFTS}
use Rattle.rules.specs.declared.stage.Stage.{Stage}
use Rattle.table.specs.GoesBy.{GoesBy, push}
use Rattle.table.specs.Once.{once}

-- a draft, and a seat
abbrev given : ℕ → Card → Draft
given n c = record { entry = n; card = c }

abbrev seat : Stage → List ℕ → List Draft → Seat
seat g ns ds = record { stage = g; reads = ns; drafts = ds }

-- the search's property of a draft
abbrev pub OfEntry : ℕ → Draft → Type 0
OfEntry n d = (d.entry ≡ n) × (0 ≤ 0)

draft_missed : (ds : List Draft) (n : ℕ) → Last (OfEntry n) ds None → draft_of ds n ≡ None
draft_missed [] n h = refl
draft_missed (d ∷ ds) n h = let r = draft_missed ds n (λ k z l. h (suc k) z (omega arith)) in let z = h 0 d (omega arith) in grind arith

-- the draft in a place is that of its entry, and to draft its entry is to replace it
drafted_at : (ds : List Draft) (i : ℕ) (z : Draft) (c : Card) → i < length ds → IsTrue (once ds) →
    (draft_of ds (get_or ds i z).entry ≡ Some (get_or ds i z).card) × (set ds i (given (get_or ds i z).entry c) ≡ with_draft ds (get_or ds i z).entry c)
drafted_at [] i z c l o = absurd (omega arith)
drafted_at (d ∷ ds) zero z c l o = grind arith
drafted_at (d ∷ ds) (suc i) z c l o = let p : IsTrue (once ds) = grind arith in let (a, b) = drafted_at ds i z c (omega arith) p in grind arith

with_new : (ds : List Draft) (n : ℕ) (c : Card) → draft_of ds n ≡ None → with_draft ds n c ≡ ds ++ given n c ∷ []
with_new [] n c h = refl
with_new (d ∷ ds) n c h = let p : draft_of ds n ≡ None = grind arith in let r = with_new ds n c p in grind arith

draft_of-with_draft : (ds : List Draft) (n : ℕ) (c : Card) (m : ℕ) → draft_of (with_draft ds n c) m ≡ (if m == n then Some c else draft_of ds m)
draft_of-with_draft [] n c m = refl
draft_of-with_draft (d ∷ ds) n c m = let h = draft_of-with_draft ds n c m in grind arith

once-with_draft : (ds : List Draft) (n : ℕ) (c : Card) → IsTrue (once ds) → IsTrue (once (with_draft ds n c))
once-with_draft [] n c o = refl
once-with_draft (d ∷ ds) n c o = let p : IsTrue (once ds) = grind arith in let r = once-with_draft ds n c p in let w = draft_of-with_draft ds n c d.entry in grind arith

-- the search says whether and where an entry has its draft
abbrev pub no_draft : Draft
no_draft = given 0 blank_card

pub draft_found : (ds : List Draft) (n : ℕ) (r : Option ℕ) → Last (OfEntry n) ds r → IsTrue (once ds) → option_map (λ at. (get_or ds at no_draft).card) r ≡ draft_of ds n
draft_found ds n None h o = sym (draft_missed ds n h)
draft_found ds n (Some i) h o = let (a, b) = drafted_at ds i no_draft blank_card h.0 o in sym (subst (λ m. draft_of ds m ≡ Some (get_or ds i no_draft).card) (h.1 no_draft).0 a)

-- a card drafted in the place that was found
module _ (ds : List Draft) (n : ℕ) (c : Card) (o : IsTrue (once ds)) (i : ℕ) (h : Last (OfEntry n) ds (Some i)) where
  at : (draft_of ds n ≡ Some (get_or ds i no_draft).card) × (set ds i (given n c) ≡ with_draft ds n c)
  at = subst (λ m. (draft_of ds m ≡ Some (get_or ds i no_draft).card) × (set ds i (given m c) ≡ with_draft ds m c)) (h.1 no_draft).0 (drafted_at ds i no_draft c h.0 o)

  pub once_replaced : IsTrue (once (set ds i (given n c)))
  once_replaced = rw at.1 (once-with_draft ds n c o)

  pub draft_replaced : (g : Stage) (ns : List ℕ) → GoesBy (draft n c) (seat g ns ds) (seat g ns (set ds i (given n c))) (Ok tt)
  draft_replaced g ns = let (some, e) = at in record { granted = grind arith; declined = grind arith }

-- or at the end, where there is none
module _ (ds : List Draft) (n : ℕ) (c : Card) (o : IsTrue (once ds)) (h : Last (OfEntry n) ds None)
    (new : List Draft) (r : Result (Unit {0}) Refusal) (f : GoesBy (push MOST_DRAFTS (given n c)) ds new r) where
  pub once_pushed : IsTrue (once new)
  once_pushed = let e = with_new ds n c (draft_missed ds n h) in let w = once-with_draft ds n c o in let a = f.granted in let b = f.declined in grind arith

  pub draft_pushed : (g : Stage) (ns : List ℕ) → GoesBy (draft n c) (seat g ns ds) (seat g ns new) r
  draft_pushed g ns =
      let none = draft_missed ds n h in
      let e = with_new ds n c none in
      let a = f.granted in
      let b = f.declined in
      record { granted = grind arith; declined = grind arith }
