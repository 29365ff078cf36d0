-- Coherence orders go over along a renumbering of the events. Assumes nothing.
use Rattle.std.proofs.Common.{◌≡◌, ℕ, ◌<◌, true, ◌&&◌, ltb, Some, None, Option, sym, refl, ap, ◌∙◌, subst, subst₂, inl, inr, ⊎_elim, arith}
use Rattle.std.proofs.lemmas.Bool.{and_parts, and_from, ltb-true, lt-ltb}
use Rattle.run.specs.declared.event.Event.{Event}
use Rattle.run.specs.Events.{Write}
use Rattle.run.specs.Runs.{Run, Stands}
use Rattle.finite.proofs.Counts.{count_carried}
use Rattle.coherence.specs.Coherence.{WriteOf, InitialOf, SettledOf, Order, Coherence}
use Rattle.coherence.specs.Renumbered.{Renumbering, moved_source, moved_event, Renumbered, moved_order, Carrying}
use Rattle.coherence.proofs.Orders.{coherent_agree}

-- the two events are alike in what coherence looks at
pub record Alike (e f : Event) : Type 0 where
  pub kind : f.kind ≡ e.kind
  pub location : f.location ≡ e.location
  pub settled : f.settled ≡ e.settled

-- each event of the run has one like it in the other, at its new number
abbrev pub Goes : Run → Run → (ℕ → ℕ) → Type 0
Goes run other to = (n : ℕ) (e : Event) → Stands run n e → (f : Event) × Stands other (to n) f × Alike e f

moved_from : (to : ℕ → ℕ) (o : Option Event) (f : Event) → moved_event to o ≡ Some f → (e : Event) × (o ≡ Some e) × Alike f e
moved_from to None f h = let z : ◌≡◌ {A = ℕ} 0 1 = cc in absurd (omega arith)
moved_from to (Some d) f h =
    let same : record { kind = d.kind; thread = d.thread; step = d.step; location = d.location; value = d.value; source = moved_source to d.source; settled = d.settled } ≡ f = cc in
    (d, refl, record { kind = ap (λ x. x.kind) same; location = ap (λ x. x.location) same; settled = ap (λ x. x.settled) same })

module _ (run other : Run) (to from : ℕ → ℕ) (moved : Renumbered run other to from) where
  pub goes_there : Goes run other to
  goes_there n e s = (
    record { kind = e.kind; thread = e.thread; step = e.step; location = e.location; value = e.value; source = moved_source to e.source; settled = e.settled },
    (moved.numbers.to_below n s.0, moved.events n s.0 ∙ ap (moved_event to) s.1),
    record { kind = refl; location = refl; settled = refl },
  )

  pub goes_back : Goes other run from
  goes_back m f s =
      let below = moved.numbers.from_below m s.0 in
      let here : moved_event to (run (from m)) ≡ Some f = sym (moved.events (from m) below) ∙ ap other (moved.numbers.to_from m s.0) ∙ s.1 in
      let t = moved_from to (run (from m)) f here in
      (t.0, (below, t.1), t.2)

pub turned : (to from : ℕ → ℕ) → Renumbering to from → Renumbering from to
turned to from r = record { to_below = r.from_below; from_below = r.to_below; to_from = r.from_to; from_to = r.to_from }

-- a kind goes over
write_alike : (e f : Event) → Alike e f → Write e → Write f
write_alike e f a = ⊎_elim (λ k. inl (a.kind ∙ k)) (λ k. inr (a.kind ∙ k))

module _ (run other : Run) (to : ℕ → ℕ) (goes : Goes run other to) where
  pub write_goes : (l n : ℕ) → WriteOf run l n → WriteOf other l (to n)
  write_goes l n w =
      let t = goes n w.event w.stands in
      record { event = t.0; stands = t.1; writes = write_alike w.event t.0 t.2 w.writes; place = t.2.location ∙ w.place }

  pub initial_goes : (l n : ℕ) → InitialOf run l n → InitialOf other l (to n)
  initial_goes l n w =
      let t = goes n w.event w.stands in
      record { event = t.0; stands = t.1; initial = t.2.kind ∙ w.initial; place = t.2.location ∙ w.place }

  pub settled_goes : (l n : ℕ) → SettledOf run l n → SettledOf other l (to n)
  settled_goes l n w =
      let t = goes n w.event w.stands in
      record { event = t.0; stands = t.1; writes = write_alike w.event t.0 t.2 w.writes; settled = t.2.settled ∙ w.settled; place = t.2.location ∙ w.place }

-- what a moved order relates
moved_parts : (from : ℕ → ℕ) (co : Order) (a b : ℕ) → moved_order from co a b ≡ true → (a < 32) × (b < 32) × (co (from a) (from b) ≡ true)
moved_parts from co a b h =
    let t = and_parts (ltb a 32 && ltb b 32) (co (from a) (from b)) h in
    let s = and_parts (ltb a 32) (ltb b 32) t.0 in
    (ltb-true a 32 s.0, ltb-true b 32 s.1, t.1)

moved_whole : (from : ℕ → ℕ) (co : Order) (a b : ℕ) → a < 32 → b < 32 → co (from a) (from b) ≡ true → moved_order from co a b ≡ true
moved_whole from co a b lt lt' h = and_from (ltb a 32 && ltb b 32) (co (from a) (from b)) (and_from (ltb a 32) (ltb b 32) (lt-ltb a 32 lt) (lt-ltb b 32 lt')) h

-- a coherence order goes over to one
pub order_goes : (run other : Run) (to from : ℕ → ℕ) → Renumbering to from → Goes run other to → Goes other run from → (co : Order) → Coherence run co → Coherence other (moved_order from co)
order_goes run other to from r there back co c =
    let apart : (a b : ℕ) → a < 32 → b < 32 → (a ≡ b → ⊥) → from a ≡ from b → ⊥ = λ a b lt lt' ne e. ne (sym (r.to_from a lt) ∙ ap to e ∙ r.to_from b lt') in
    record {
      only = λ a b h.
          let p = moved_parts from co a b h in
          let t = c.only (from a) (from b) p.2 in
          (t.0, subst (WriteOf other t.0) (r.to_from a p.0) (write_goes run other to there t.0 (from a) t.1), subst (WriteOf other t.0) (r.to_from b p.1) (write_goes run other to there t.0 (from b) t.2));
      irreflexive = λ a h. c.irreflexive (from a) (moved_parts from co a a h).2;
      transitive = λ a b d h k. let p = moved_parts from co a b h in let q = moved_parts from co b d k in moved_whole from co a d p.0 q.1 (c.transitive (from a) (from b) (from d) p.2 q.2);
      total = λ l a b w v ne.
          let lt = w.stands.0 in
          let lt' = v.stands.0 in
          ⊎_elim (λ h. inl (moved_whole from co a b lt lt' h)) (λ h. inr (moved_whole from co b a lt' lt h)) (c.total l (from a) (from b) (write_goes other run from back l a w) (write_goes other run from back l b v) (apart a b lt lt' ne));
      first = λ l a b w v ne. moved_whole from co a b w.stands.0 v.stands.0 (c.first l (from a) (from b) (initial_goes other run from back l a w) (write_goes other run from back l b v) (apart a b w.stands.0 v.stands.0 ne));
      last = λ l a b w v ne. moved_whole from co a b w.stands.0 v.stands.0 (c.last l (from a) (from b) (write_goes other run from back l a w) (settled_goes other run from back l b v) (apart a b w.stands.0 v.stands.0 ne));
    }

module _ (run other : Run) (to from : ℕ → ℕ) (r : Renumbering to from) (there : Goes run other to) (back : Goes other run from) where
  pub order_one : (co co' : Order) → Coherence run co → Coherence run co' → moved_order from co ≡ moved_order from co' → co ≡ co'
  order_one co co' c c' e =
      coherent_agree run co co' c c' (λ a b h.
      let t = c.only a b h in
      let lt = t.1.stands.0 in
      let lt' = t.2.stands.0 in
      let there-a = r.to_below a lt in
      let there-b = r.to_below b lt' in
      let moved : moved_order from co (to a) (to b) ≡ true = moved_whole from co (to a) (to b) there-a there-b (subst₂ (λ x y. co x y ≡ true) (sym (r.from_to a lt)) (sym (r.from_to b lt')) h) in
      let also : moved_order from co' (to a) (to b) ≡ true = subst (λ o. o (to a) (to b) ≡ true) e moved in
      subst₂ (λ x y. co' x y ≡ true) (r.from_to a lt) (r.from_to b lt') (moved_parts from co' (to a) (to b) also).2)

  pub order_onto : (co' : Order) → Coherence other co' → (co : Order) × Coherence run co × (moved_order from co ≡ co')
  order_onto co' c' =
      let c = order_goes other run from to (turned to from r) back there co' c' in (
        moved_order to co',
        c,
        coherent_agree other (moved_order from (moved_order to co')) co' (order_goes run other to from r there back (moved_order to co') c) c' (λ a b h.
            let p = moved_parts from (moved_order to co') a b h in
            let q = moved_parts to co' (from a) (from b) p.2 in
            subst₂ (λ x y. co' x y ≡ true) (r.to_from a p.0) (r.to_from b p.1) q.2),
      )

pub carrying_law : Carrying
carrying_law run other to from moved =
    let there = goes_there run other to from moved in
    let back = goes_back run other to from moved in
    let r = moved.numbers in
    record {
      over = order_goes run other to from r there back;
      one = order_one run other to from r there back;
      onto = order_onto run other to from r there back;
      count = λ n c. count_carried (moved_order from) (order_goes run other to from r there back) (λ co co' h k e. order_one run other to from r there back co co' h k e) (order_onto run other to from r there back) c;
    }
