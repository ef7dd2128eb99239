-- What is left when every edit is settled and collects alone follow.
use Rattle.std.proofs.Common.{◌≡◌, ℕ, zero, suc, ◌<◌, ◌≤◌, Bool, if◌then◌else◌, ◌⊎◌, Any, List, [], ◌∷◌, ◌++◌, length, slice_index_or, is_ok, Some, None, IsErr, Option, unwrap_or, sym, refl, ap, ◌∙◌, subst, inl, inr, arith}
use Rattle.std.proofs.lemmas.List.Elements.{All-head, All-tail}
use Rattle.std.proofs.lemmas.Option.{none-some}
use Rattle.cards.specs.Cards.{blank_card}
use Rattle.cards.specs.declared.card.Card.{Card}
use Rattle.rules.proofs.RunOk.{before, reached_inv}
use Rattle.rules.proofs.Inv.{Inv, all_put, newest_kept, newest_card}
use Rattle.rules.proofs.Versions.{next_none, next_least}
use Rattle.rules.proofs.Options.{nothing, same_option}
use Rattle.rules.proofs.Ready.{LateAt, ready_le, ready_most, NoProof, floor_ready}
use Rattle.rules.specs.Account.{fed, number, Account, account, card_after}
use Rattle.rules.specs.Law.{Quiet, IsCollect, Collects, Declined, OneLeft}
use Rattle.rules.specs.Runs.{Event, Reached, step}
use Rattle.rules.specs.State.{next_time, floor, State, size, seat, row, versions, latest, ready}
use Rattle.rules.specs.declared.call.Call.{Call}
use Rattle.rules.specs.declared.call.Call.TheVariants as call

abbrev Single : (ℕ → Option Card) → Type 0
Single m = (t u : ℕ) (c d : Card) → m t ≡ Some c → m u ≡ Some d → t ≡ u

latest_here : (m : ℕ → Option Card) (t : ℕ) (c : Card) → m t ≡ Some c → latest m t ≡ Some c
latest_here m t c e = grind arith

-- ---- with no proof open and every edit settled
module _ (h : List Event) (s : State) (i : Inv h s) (q : Quiet (account h)) where
  calm_stage : (k : ℕ) → NoProof (seat s k).stage × LateAt s.clock (seat s k).drafts (seat s k).stage
  calm_stage k = let o = i.seats.seated k in let a = q.0 k in let b = q.1 in let c = i.shape.clock in grind arith

  ready_clock : ready s ≡ s.clock
  ready_clock = let l = ready_le s.clock s.seats in let m = ready_most s.clock s.clock s.seats (omega arith) (λ k. (calm_stage k).1) in omega arith

  floor_clock : floor s ≡ s.clock
  floor_clock = floor_ready (ready s) s.seats (λ k. (calm_stage k).0) ∙ ready_clock

  held_in : (n t : ℕ) (c : Card) → versions s n t ≡ Some c → (0 < t) × (t ≤ floor s) × (n < size s)
  held_in n t c e = let z = i.history.wrote_in t n c (i.history.put_wrote n t c (i.keeper.only n t c e)) in let f = floor_clock in grind arith

  -- a declined collect leaves one version at most
  declined_single : (n : ℕ) → IsErr (step s (call.Collect n)).1 → Single (versions s n)
  declined_single n e u v c d p q =
      let a = held_in n u c p in
      let none = λ (o : next_time (versions s n) 0 (floor s) ≡ None). next_none (versions s n) 0 (floor s) o u a.0 a.1 in
      let one = λ (t : ℕ) (o : next_time (versions s n) 0 (floor s) ≡ Some t) (x : next_time (versions s n) t (floor s) ≡ None). only t o x u c p ∙ sym (only t o x v d q) in
      grind arith
    where
      only : (t : ℕ) → next_time (versions s n) 0 (floor s) ≡ Some t → next_time (versions s n) t (floor s) ≡ None → (w : ℕ) (x : Card) → versions s n w ≡ Some x → w ≡ t
      only t o x w y z = let l = next_least (versions s n) 0 (floor s) t o w in let m = next_none (versions s n) t (floor s) x w in let k = held_in n w y z in grind arith

  -- the newest of each entry is left
  pub one_left : (n : ℕ) → (n < size s → Single (versions s n)) → OneLeft (account h) (versions s n) n
  one_left n single = go (i.history.row_in n)
    where
      same : (t : ℕ) → i.put n t ≡ (account h).wrote t n
      same t = same_option (i.put n t) ((account h).wrote t n) (i.history.put_wrote n t) (λ c q p.
          let z = (i.history.wrote_in t n c q).1 in let r = ready_clock in let a = all_put i n t (omega arith) in none-some c (sym p ∙ a ∙ q))

      go : ((row s n).time ≡ 0) ⊎ ((c : Card) × (i.put n (row s n).time ≡ Some c)) → OneLeft (account h) (versions s n) n
      go (inl z) = inl ((λ t. sym (same t) ∙ none t), λ t. nothing (versions s n t) (λ c p. none-some c (sym (none t) ∙ i.keeper.only n t c p)))
        where
          none : (t : ℕ) → i.put n t ≡ None
          none t = nothing (i.put n t) (λ c p. let l = i.history.row_top n t c p in let m = (i.history.wrote_in t n c (i.history.put_wrote n t c p)).0 in omega arith)
      go (inr z) =
          let t = (row s n).time in
          let c = z.0 in
          let wrote = i.history.put_wrote n t c z.1 in
          let inside = i.history.wrote_in t n c wrote in
          let held : versions s n t ≡ Some c = newest_kept i n c z.1 in
          let right : c ≡ card_after (account h).wrote (account h).last n =
          sym (ap (λ (o : Option Card). unwrap_or o blank_card) (latest_here (versions s n) t c held))
          ∙ newest_card i n (account h).last same (let l = inside.1 in let e = i.shape.clock in omega arith) in
          inr (t, (c, wrote), held ∙ ap (λ (x : Card). Some x) right, λ u ne. nothing (versions s n u) (λ d p. ne (single inside.2 u t d c p held)))

-- ---- collects alone
any_first : {X : Type 0} (P : X → Type 0) (x : X) (xs : List X) → Any P (x ∷ xs) → P x ⊎ Any P xs
any_first {X} P x xs a = go a.0 a.1 a.2 a.3 a.4
  where
    go : (k : ℕ) (y : X) → k < length (x ∷ xs) → slice_index_or (x ∷ xs) k y ≡ y → P y → P x ⊎ Any P xs
    go zero y l e p = inl (subst P (sym e) p)
    go (suc k) y l e p = inr (k, y, omega arith, e, p)

account_collect : (a : Account) (c : Call) (b : Bool) (x : ℕ) → IsCollect c → (if b then fed a c x else a) ≡ a
account_collect a c b x w = grind arith

fewer : (s : State) (c : Call) → IsCollect c → (n : ℕ) → Single (versions s n) → Single (versions (step s c).0 n)
fewer s c w n f = grind arith

sweep : (later earlier : List Event) (s : State) → Reached (later ++ earlier) s → Quiet (account earlier) → Collects later →
    (account (later ++ earlier) ≡ account earlier) × ((n : ℕ) → Declined n later → Single (versions s n))
sweep [] earlier s r q c = (refl, λ n d. absurd (let l = d.2 in omega arith))
sweep (v ∷ later) earlier s r q c =
    let b = before r in
    let t = b.0 in
    let w = All-head (λ (x : Event). IsCollect x.call) v later c in
    let rest = sweep later earlier t b.1 q (All-tail (λ (x : Event). IsCollect x.call) v later c) in (
      account_collect (account (later ++ earlier)) v.call (is_ok v.answer) (number v.answer) w ∙ rest.0,
      λ n d. rw b.3 (fewer t v.call w n (single t b.1 b.2 rest n (any_first _ v later d))),
    )
  where
    single : (t : State) → Reached (later ++ earlier) t → v.answer ≡ (step t v.call).1 →
        (account (later ++ earlier) ≡ account earlier) × ((n : ℕ) → Declined n later → Single (versions t n)) →
        (n : ℕ) → ((v.call ≡ call.Collect n) × IsErr v.answer) ⊎ Declined n later → Single (versions t n)
    single t r e rest n (inr d) = rest.1 n d
    single t r e rest n (inl d) = declined_single (later ++ earlier) t (reached_inv r) (rw rest.0 q) n (rw d.0 at (rw e at d.1))

pub collected : (h : List Event) (s : State) → Reached h s → (later earlier : List Event) → h ≡ later ++ earlier → Quiet (account earlier) → Collects later →
    ((n : ℕ) → n < size s → Declined n later) → (n : ℕ) → OneLeft (account h) (versions s n) n
collected h s r = λ later earlier e q c d n.
    let z = sweep later earlier s (rw e at r) q c in
    one_left h s (reached_inv r) (subst Quiet (sym z.0 ∙ sym (ap account e)) q) n (λ l. z.1 n (d n l))
