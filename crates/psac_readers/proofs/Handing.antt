-- The views on the way of a link that is given back.
use Rattle.psac_readers.proofs.Terms.{◌≡◌, ℕ, ◌+◌, ◌<◌, List, [], ◌∷◌, ◌++◌, map, length, Bool, true, false, cond, refl, ap, ◌∙◌, ⊎_elim, arith, sum_map, sum_by, filter, not, ◌==◌, sum_by-cons, Handle, has_room, accounted_returned, Stage, LinkView, ReadersView, head_at, times, in_set, is_live, named, alive, Each, reviving, revive, revived, leaving, take_off, lose, unlinked, other_link, freed, swept_one, is_settled, Fine, led_from, IsSet, Carries, ringed_returned}
use Rattle.psac_slots.specs.Handles as handles
use Rattle.psac_slots.specs.Claiming as claiming
use Rattle.psac_readers.proofs.Carrying.{renewed, ring_here}
use Rattle.psac_readers.proofs.Links.{each_stage, restaged_fine, each_map, each_filter}
use Rattle.psac_readers.proofs.Taking.{stands}
use Rattle.psac_readers.proofs.Unlinking.{one_if, times_append, snoc, led_last}
use Rattle.psac_readers.proofs.Walking.{chain_named, named_low}

up : (n l : ℕ) (k : LinkView) → Fine n k → alive l (revive l k) ≡ named l k
up n l k f = by (k.link == l) k.stage f.settled
  where
    by : (b : Bool) (s : Stage) → is_settled s ≡ 1 → ◌≡◌ {A = ℕ} (cond b (is_live (cond b (reviving s) s)) 0) (cond b 1 0)
    by true s e = each_stage (λ s. is_settled s ≡ 1 → is_live (reviving s) ≡ 1) (λ e. absurd (omega (arith, e))) (λ n e. absurd (omega (arith, e))) (λ e. refl) (λ e. refl) s e
    by false s e = refl

down : (n l : ℕ) (k : LinkView) → Fine n k → stands l (take_off l (revive l k)) ≡ 0
down n l k f = by (k.link == l) k.stage f.settled
  where
    by : (b : Bool) (s : Stage) → is_settled s ≡ 1 → cond b (in_set (cond b (leaving (cond b (reviving s) s)) (cond b (reviving s) s))) 0 ≡ 0
    by true s e = each_stage (λ s. is_settled s ≡ 1 → in_set (leaving (reviving s)) ≡ 0) (λ e. refl) (λ n e. absurd (omega (arith, e))) (λ e. refl) (λ e. refl) s e
    by false s e = refl

pub revived_alive : (n l : ℕ) (ks : List LinkView) → Each (Fine n) ks → sum_by (alive l) (map (revive l) ks) ≡ sum_by (named l) ks
revived_alive n l [] f = refl
revived_alive n l (k ∷ ks) f = omega (arith, sum_by-cons (alive l) (revive l k) (map (revive l) ks), sum_by-cons (named l) k ks, up n l k f.0, revived_alive n l ks f.1)

pub unlinked_out : (n l : ℕ) (ks : List LinkView) → Each (Fine n) ks → sum_by (stands l) (map (take_off l) (map (revive l) ks)) ≡ 0
unlinked_out n l [] f = refl
unlinked_out n l (k ∷ ks) f = omega (arith, sum_by-cons (stands l) (take_off l (revive l k)) (map (take_off l) (map (revive l) ks)), down n l k f.0, unlinked_out n l ks f.1)

pub revived_fine : (n l : ℕ) (ks : List LinkView) → Each (Fine n) ks → Each (Fine n) (map (revive l) ks)
revived_fine n l = each_map (Fine n) (Fine n) (revive l) (restaged_fine reviving (each_stage (λ s. is_settled s ≡ 1 → is_settled (reviving s) ≡ 1) (λ e. e) (λ n e. e) (λ e. refl) (λ e. refl)) n l)

pub still_named : (l : ℕ) (ks : List LinkView) → sum_by (named l) (map (take_off l) (map (revive l) ks)) ≡ sum_by (named l) ks
still_named l ks = sum_map (take_off l) (named l) (map (revive l) ks) ∙ sum_map (revive l) (named l) ks

other_one : (l : ℕ) (k : LinkView) (ks ms : List LinkView) → ms ≡ ks → (b : Bool) → (k.link == l) ≡ b → cond (not b) (take_off l (revive l k) ∷ ms) ms ≡ cond (not b) (k ∷ ks) ks
other_one l k ks ms e true is = e
other_one l k ks ms e false is = λ i. record { link = k.link; of = k.of; node = k.node; stage = (ap (λ b. cond b (leaving (cond b (reviving k.stage) k.stage)) (cond b (reviving k.stage) k.stage)) is) i } ∷ e i

others_same : (l : ℕ) (ks : List LinkView) → filter (other_link l) (map (take_off l) (map (revive l) ks)) ≡ filter (other_link l) ks
others_same l [] = refl
others_same l (k ∷ ks) = other_one l k (filter (other_link l) ks) (filter (other_link l) (map (take_off l) (map (revive l) ks))) (others_same l ks) (k.link == l) refl

pub freed_all : (l : ℕ) (v : ReadersView) → freed l (unlinked l (revived l v)) ≡ swept_one l v
freed_all l v = λ i. record v { claims = claiming.returned (record { slot = l; generation = 1 }) v.claims; walk = map (lose l) v.walk; links = others_same l v.links i }

-- there is room for the link, and each link is free or held from then on
pub room_after : (l : ℕ) (v : ReadersView) → 0 < handles.slot_times l v.claims.held → claiming.Accounted v.claims → (length v.claims.list < v.claims.count) × claiming.Accounted (swept_one l v).claims
room_after l v has a = let h : Handle = record { slot = l; generation = 1 } in (has_room v.claims a h has, accounted_returned v.claims a h has)

pub carries_swept : (links mods head room words l : ℕ) (v : ReadersView) → Carries links mods head room words v → length v.claims.list < v.claims.count → Carries links mods head (room + 1) words (swept_one l v)
carries_swept links mods head room words l v c less =
    renewed links mods head room words v c head (room + 1) (swept_one l v)
    (ringed_returned links head room v.claims (ring_here links mods head room words v c) (record { slot = l; generation = 1 }) (omega (arith, c.room_is, c.links_is, less)))
    refl (each_filter (Fine links) (other_link l) v.links c.fine)

-- the place behind a part of a chain is a word of the table
pub led_low : (links mods head room words : ℕ) (v : ReadersView) → Carries links mods head room words v → (m l : ℕ) (a b : List ℕ) → m < v.mods → IsSet v m (a ++ l ∷ b) → led_from v.claims.count v.mods (head_at v.claims.count m) a < words
led_low links mods head room words v c m l a b small set =
    let li = c.links_is in
    let mi = c.mods_is in
    let z = c.words_is in ⊎_elim
    (λ (q : a ≡ []). let e = ap (led_from v.claims.count v.mods (head_at v.claims.count m)) q in omega (arith, e, li, mi, z, small))
    (λ (q : (y : List ℕ) × (p : ℕ) × (a ≡ y ++ p ∷ [])).
    let e = ap (led_from v.claims.count v.mods (head_at v.claims.count m)) q.2 ∙ led_last v.claims.count v.mods (head_at v.claims.count m) q.1 q.0 in
    let t = ap (λ (x : List ℕ). times q.1 (x ++ l ∷ b)) q.2 ∙ (times_append q.1 (q.0 ++ q.1 ∷ []) (l ∷ b)) in
    let on : 0 < times q.1 (a ++ l ∷ b) = omega (arith, t, times_append q.1 q.0 (q.1 ∷ []), one_if q.1 q.1 refl) in
    omega (arith, e, li, mi, z, named_low links q.1 v.links c.fine (chain_named v m q.1 (a ++ l ∷ b) set on)))
    (snoc a)
