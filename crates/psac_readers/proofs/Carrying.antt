-- What passes carry over forks, joins and leaves.
use Rattle.psac_readers.proofs.Terms.{◌≡◌, ℕ, ◌+◌, ◌-◌, ◌<◌, List, [], ◌∷◌, length, take, Bool, cond, refl, ap, ◌∙◌, arith, Some, sum_by, not, sum_by-cons, eq-eqb, LinkView, ReadersView, named, alive, Each, regained, rewound, Fine, is_settled, die, dying, left, learned, left_of, right_of, joined, right_link, Carries, Ringed, ringed_rewound}
use Rattle.psac_slots.specs.Claiming as claiming
use Rattle.psac_readers.proofs.Links.{each_stage, restaged_fine, alive_deads, sum_under, each_append, each_filter, each_map, each_imp}
use Rattle.psac_readers.proofs.Walking.{named_low}

module _ (links mods head room words : ℕ) (v : ReadersView) (c : Carries links mods head room words v) where
  pub ring_here : Ringed links head room v.claims
  ring_here = (c.live, c.links_is, c.head_is, c.room_is, c.room_fits, c.head_fits)

  -- a ring, and the same sizes
  pub renewed : (at left : ℕ) (w : ReadersView) → Ringed links at left w.claims → w.mods ≡ v.mods → Each (Fine links) w.links → Carries links mods at left words w
  renewed at left w r d fine = record {
    live = r.0;
    links_is = r.1;
    mods_is = d ∙ c.mods_is;
    head_is = r.2;
    room_is = r.3;
    room_fits = r.4;
    head_fits = r.5;
    words_is = c.words_is;
    small = c.small;
    fine = fine;
  }

  pub carries_dead : (l : ℕ) → Carries links mods head room words (left l v)
  carries_dead l = renewed head room (left l v) ring_here refl
      (each_map (Fine links) (Fine links) (die l) (restaged_fine dying (each_stage (λ s. is_settled s ≡ 1 → is_settled (dying s) ≡ 1) (λ e. e) (λ n e. e) (λ e. refl) (λ e. refl)) links l) v.links c.fine)

  pub carries_left : (f g h : ℕ → Bool) → Carries links mods head room words (left_of f g h v)
  carries_left f g h = renewed head room (left_of f g h v) ring_here refl (each_filter (Fine links) (λ k. not (right_link f g h k)) v.links c.fine)

  pub carries_right : (f g h : ℕ → Bool) → Carries links mods head room words (right_of f g h v)
  carries_right f g h = renewed head room (right_of f g h v) (refl, c.links_is, c.head_is, c.room_is, c.room_fits, c.head_fits) refl (each_filter (Fine links) (right_link f g h) v.links c.fine)

  pub carries_joined : (n m o p q : ℕ) (w : ReadersView) → Carries n m o p q w → ((l : ℕ) → 0 < sum_by (named l) (joined v w).links → l < links) → Carries links mods head room words (joined v w)
  carries_joined n m o p q w d low = renewed head room (joined v w) ring_here refl
      (each_low (joined v w).links low (each_append Rest v.links w.links (each_imp (Fine links) Rest (λ k f. (f.settled, f.node)) v.links c.fine) (each_imp (Fine n) Rest (λ k f. (f.settled, f.node)) w.links d.fine)))
    where
      Rest : LinkView → Type 0
      Rest k = (is_settled k.stage ≡ 1) × ((x : ℕ) × (k.node ≡ Some x))

      each_low : (ks : List LinkView) → ((l : ℕ) → 0 < sum_by (named l) ks → l < links) → Each Rest ks → Each (Fine links) ks
      each_low [] f r = tt
      each_low (k ∷ ks) f r =
          let one : named k.link k ≡ 1 = ap {B = ℕ} (λ b. cond b 1 0) (eq-eqb k.link k.link refl) in (
            record { low = f k.link (let s = sum_by-cons (named k.link) k ks in omega (arith, s, one)); settled = r.0.0; node = r.0.1 },
            each_low ks (λ l p. f l (let s = sum_by-cons (named l) k ks in omega (arith, s, p))) r.1,
          )

  pub carries_regained : (n : ℕ) → Carries links mods head room words (regained n v)
  carries_regained n = renewed head room (regained n v) ring_here refl c.fine

  pub carries_learned : (m : ℕ) (ls : List ℕ) → Carries links mods head room words (learned m ls v)
  carries_learned m ls = renewed head room (learned m ls v) ring_here refl c.fine

  pub carries_rewound : (gone : ℕ) → length (take (claiming.counted v.claims.counter) v.claims.list) ≡ gone → Carries links mods (claiming.turned links (head + gone)) (room - gone) words (rewound v)
  carries_rewound gone e = renewed (claiming.turned links (head + gone)) (room - gone) (rewound v) (ringed_rewound links head room v.claims ring_here gone e) refl c.fine

  -- a live link of the pass is below the number of links
  pub alive_low : (l : ℕ) → 0 < sum_by (alive l) v.links → l < links
  alive_low l p = named_low links l v.links c.fine (let a = sum_under (alive l) (named l) (λ k. let b = alive_deads l k in omega (arith, b)) v.links in omega (arith, a, p))
