-- What the rule of reader sets gives.
use Rattle.psac_readers.proofs.Terms.{◌≡◌, ◌≢◌, ℕ, ◌≤◌, List, [], ◌∷◌, map, sym, ap, ◌∙◌, subst, ⊎_elim, arith, sum_map, sum_by, cases_eq, some-injective, get_elem?, at_map, ClaimView, Member, at_most_once, sum_at, sum_two, LinkView, ReadersView, named, linked, deads, Each, claims_of, rights_of, Staged, Readable, Promised}
use Rattle.psac_slots.specs.Handles as handles
use Rattle.psac_slots.proofs.Kept as slots
use Rattle.psac_readers.proofs.Links.{stage_word, sum_under, linked_named, alive_deads}

each_member : {A : Type 0} (P : A → Type 0) (x : A) (xs : List A) → Each P xs → Member x xs → P x
each_member P x [] h m = absurd m
each_member P x (y ∷ ys) h m = ⊎_elim (λ e. subst P e h.0) (λ r. each_member P x ys h.1 r) m

pub promised : (links mods : ℕ) (words : List ℕ) (views : List ReadersView) → Readable links mods words views → Promised links mods words views
promised links mods words views h =
    let all_named : (l : ℕ) → sum_by (λ (u : ReadersView). sum_by (named l) u.links) views ≤ 1 = λ l.
    let a = h.sets.owed l in let b = sum_map claims_of (λ (c : ClaimView). handles.slot_times l c.held) views in let d = h.claims.slots l in let o = at_most_once l links in omega (arith, a, b, d, o) in
    let few : (g : ℕ → LinkView → ℕ) → ((l : ℕ) (k : LinkView) → g l k ≤ named l k) → (l : ℕ) → sum_by (λ (u : ReadersView). sum_by (g l) u.links) views ≤ 1 = λ g less l.
    let a = sum_under (λ (u : ReadersView). sum_by (g l) u.links) (λ (u : ReadersView). sum_by (named l) u.links) (λ u. sum_under (g l) (named l) (less l) u.links) views in let b = all_named l in omega (arith, a, b) in
    record {
      claims = slots.promised links h.counter h.head h.list words (map claims_of views) h.claims;
      free_unlinked = λ i v l e f.
          let a = sum_at (λ (u : ReadersView). sum_by (named l) u.links) views i v e in
          let n = slots.unheld words (map claims_of views) (slots.promised links h.counter h.head h.list words (map claims_of views) h.claims) l f in
          omega (arith, a, h.sets.owed l, sum_map claims_of (λ (c : ClaimView). handles.slot_times l c.held) views, n);
      next = h.sets.next;
      chain = h.sets.chain;
      stored_next = λ i v k e m s. stage_word links mods words h.sets.next k.link k.stage (omega (arith, s)) (each_member _ k v.links (h.sets.tells i v e).known m).0;
      kept_next = λ i v k n e m s. subst (Staged links mods words h.sets.next k.link) s (each_member _ k v.links (h.sets.tells i v e).known m).0;
      from_head = h.sets.heads;
      once = λ m l. let a = h.sets.counted m l in let b = few (λ x. linked m x) (λ x k. linked_named m x k) l in omega (arith, a, b);
      private_whole = λ i v m l e has. sym ((h.sets.tells i v e).whole m has l);
      shared_whole = λ m l. sym (h.sets.counted m l);
      private_alone = λ i j v u m y e d n a b. (h.rights.beside i j (rights_of v) (rights_of u) (at_map rights_of views i v e) (at_map rights_of views j u d) n).alone m y a b;
      private_unshared = λ i j v u m x e d a b. ⊎_elim
          (λ (same : i ≡ j). (h.rights.own i (rights_of v) (at_map rights_of views i v e)).apart m a x (subst (λ (w : ReadersView). Member x w.shared) (some-injective u v (sym d ∙ (ap (get_elem? views) (sym same) ∙ e))) b))
          (λ (n : i ≢ j). (h.rights.beside i j (rights_of v) (rights_of u) (at_map rights_of views i v e) (at_map rights_of views j u d) n).apart m a x b)
          (cases_eq i j);
      labels = λ i v x e m. (h.rights.own i (rights_of v) (at_map rights_of views i v e)).labels x m;
      one_label = λ i j v u x y e d a b is. ⊎_elim
          (λ (same : i ≡ j). (h.rights.own i (rights_of v) (at_map rights_of views i v e)).one x y a (subst (λ (w : ReadersView). Member y w.shared) (some-injective u v (sym d ∙ (ap (get_elem? views) (sym same) ∙ e))) b) is)
          (λ (n : i ≢ j). (h.rights.beside i j (rights_of v) (rights_of u) (at_map rights_of views i v e) (at_map rights_of views j u d) n).one x y a b is)
          (cases_eq i j);
      below = λ i j v u x e d n a live pre. (h.rights.beside i j (rights_of v) (rights_of u) (at_map rights_of views i v e) (at_map rights_of views j u d) n).below x a live pre;
      one_owner = λ i j v u l e d n. let a = sum_two (λ (w : ReadersView). sum_by (named l) w.links) views i j v u n e d in let b = all_named l in omega (arith, a, b);
      dead_word = h.sets.stored;
      dead_or_not = few deads (λ l k. let a = alive_deads l k in omega (arith, a));
    }
