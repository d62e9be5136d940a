-- The views on the way of an enter.
use Rattle.psac_readers.proofs.Terms.{◌≡◌, ℕ, ◌+◌, ◌%◌, ◌<◌, List, [], ◌∷◌, ◌++◌, map, length, cond, refl, sym, ap, ◌∙◌, arith, subst, inl, inr, ⊎_elim, handle_at, sum_by, sum_by-cons, eq-eqb, none as vacant, get_elem?, step, claimed_entry, LinkView, ReadersView, named, mods_of, Seat, new_link, drew, on_head, noded, swapped, came, entered, Loaded, Has, Carries, Member}
use Rattle.psac_slots.specs.Claiming as claiming
use Rattle.psac_readers.proofs.Links.{mods_forget}
use Rattle.psac_readers.proofs.Carrying.{renewed, ring_here}

abbrev pub with_links : ReadersView → ℕ → List LinkView → ReadersView
with_links v n ks = record (drew v n) { links = ks }

pub record Got (v : ReadersView) (n word : ℕ) (me : Seat) : Type 0 where
  pub view : me ≡ (with_links v n (new_link (handle_at word) ∷ v.links), [])
  pub entry : claiming.entry v.claims.list n ≡ handle_at word ∷ []
  pub low : word % 4294967296 < v.claims.count
  pub new : sum_by (named (word % 4294967296)) v.links ≡ 0

pub got : (slots i n word : ℕ) (v : ReadersView) (me1 me2 : Seat) → me1 ≡ (drew v n, []) → Loaded (step slots i 0 0 vacant) me1 word me2 → i ≡ claiming.place v.claims.count (v.claims.head + n) → n < length v.claims.list → Got v n word me2
got slots i n word v me1 me2 e1 l is small =
    let entry : claiming.entry v.claims.list n ≡ handle_at word ∷ [] = claimed_entry v.claims.list n word small
    (λ h at. l.entry n (is ∙ (λ j. claiming.place (sym e1 j).0.claims.count ((sym e1 j).0.claims.head + n))) h (ap (λ (z : Seat). get_elem? z.0.claims.list n) e1 ∙ at)) in
    let links : (drew v n).links ≡ new_link (handle_at word) ∷ v.links = ap (λ es. map new_link es ++ v.links) entry in
    let k = new_link (handle_at word) in
    let one : named k.link k ≡ 1 = ap {B = ℕ} (λ b. cond b 1 0) (eq-eqb k.link k.link refl) in
    let there : sum_by (named k.link) me1.0.links ≡ named k.link k + sum_by (named k.link) v.links = ap (λ (z : Seat). sum_by (named k.link) z.0.links) e1 ∙ (ap (sum_by (named k.link)) links ∙ sum_by-cons (named k.link) k v.links) in
    record {
      view = l.same ∙ (e1 ∙ (λ j. (with_links v n (links j), [])));
      entry = entry;
      new = let a = l.once k.link in omega (arith, a, there, one);
      low = let a = l.low k.link (omega (arith, there, one)) in let b = ap (λ (z : Seat). z.0.claims.count) e1 in omega (arith, a, b);
    }

abbrev pub F_node : ℕ → Seat → Seat
F_node x z = (record z.0 { links = on_head (noded x) z.0.links }, z.1)

abbrev pub F_swap : ℕ → ℕ → Seat → Seat
F_swap m n z = (swapped m n z.0, z.1)

abbrev pub F_came : Seat → Seat
F_came z = (record z.0 { links = on_head came z.0.links }, z.1)

-- the last view of an enter
pub last : (v : ReadersView) (n word m x old : ℕ) (me2 me3 me4 me5 : Seat) → Got v n word me2 → me3 ≡ F_node x me2 → me4 ≡ F_swap m old me3 → me5 ≡ F_came me4 → me5 ≡ (entered v n m x (word % 4294967296), [])
last v n word m x old me2 me3 me4 me5 g e3 e4 e5 = e5 ∙ ap F_came (e4 ∙ ap (F_swap m old) (e3 ∙ ap (F_node x) g.view))

-- what a pass carries after an enter
pub carries : (links mods head room words n m x l : ℕ) (v : ReadersView) → Carries links mods head room words v → l < links → Carries links mods head room words (entered v n m x l)
carries links mods head room words n m x l v c low = renewed links mods head room words v c head room (entered v n m x l) (ring_here links mods head room words v c) refl (record { low = low; settled = refl; node = (x, refl) }, c.fine)

-- an enter keeps the sets that the pass has
pub still_has : (v w : ReadersView) (n m x l : ℕ) → w ≡ entered v n m x l → (y : ℕ) → Has y v → Has y w
still_has v w n m x l e y h = subst (Has y) (sym e) (⊎_elim (λ p. inl (subst (Member y) (sym (mods_forget m v.walk)) p)) (λ q. inr q) h)

pub same_sets : (v w : ReadersView) (n m x l : ℕ) → w ≡ entered v n m x l → mods_of w.walk ≡ mods_of v.walk
same_sets v w n m x l e = ap (λ (u : ReadersView). mods_of u.walk) e ∙ mods_forget m v.walk
