-- How many indexes the parts of a repair drew, added up.
use Rattle.std.proofs.Common.{◌≡◌, ℕ, ◌+◌, ◌≤◌, Bool, List, ◌++◌, length, length-append, refl, ap, sym, ◌∙◌, arith}
use Rattle.psac_ops.specs.declared.plain.Handle.{Handle}
use Rattle.psac_model.specs.declared.ends.CapKind.{CapKind}
use Rattle.psac_model.specs.declared.ends.CapKind.TheVariants as cap
use Rattle.psac_model.specs.declared.ends.Size.{Size}
use Rattle.psac_model.specs.Tree.{no_size, add_size}
use Rattle.psac_traced.specs.Rec.{Rec, E}
use Rattle.psac_traced.specs.Mending.{Mending, mended}
use Rattle.psac_cut.specs.Within.{count_of, some_mods}
use Rattle.psac_cut_repair.proofs.Walked.{none_mended}

pub count_add : (c : CapKind) (x y : Size) → count_of c (add_size x y) ≡ count_of c x + count_of c y
count_add cap.Nodes x y = omega arith
count_add cap.Mods x y = refl
count_add cap.Links x y = refl

count_none : (c : CapKind) → count_of c no_size ≡ 0
count_none cap.Nodes = refl
count_none cap.Mods = refl
count_none cap.Links = refl

count_mods : (c : CapKind) (a b n : ℕ) → a + b ≡ n → count_of c (some_mods a) + count_of c (some_mods b) ≡ count_of c (some_mods n)
count_mods cap.Nodes a b n e = refl
count_mods cap.Mods a b n e = e
count_mods cap.Links a b n e = refl

-- so many were drawn of each table as a size has; and no more than it has with so many modifiables
abbrev pub Draw : (CapKind → ℕ) → Size → Type 0
Draw d x = (c : CapKind) → d c ≡ count_of c x

abbrev pub DrawMost : (CapKind → ℕ) → Size → ℕ → Type 0
DrawMost d x n = (c : CapKind) → d c ≤ count_of c (add_size x (some_mods n))

abbrev pub Sum : (CapKind → ℕ) → (CapKind → ℕ) → (CapKind → ℕ) → Type 0
Sum one two all = (c : CapKind) → all c ≡ one c + two c

abbrev pub no_draw : CapKind → ℕ
no_draw c = 0

pub with_none : (d : CapKind → ℕ) → Sum d no_draw d
with_none d c = omega arith

-- of a part that wasn't reached
pub draw_none : (same : Handle → Handle → Bool) (old : Rec Handle) → Draw no_draw (mended same old E).added
draw_none same old c = sym (ap (λ (d : Mending Handle). count_of c d.added) (none_mended same old) ∙ count_none c)

pub draw_all : (d : CapKind → ℕ) (x : Size) → Draw d x → DrawMost d x 0
draw_all d x h c = let e = h c in let a = count_add c x (some_mods 0) in omega (arith, e, a)

-- of two parts
pub draw_both : (one two all : CapKind → ℕ) (x y : Size) → Sum one two all → Draw one x → Draw two y → Draw all (add_size x y)
draw_both one two all x y s h k c = let a = s c in let b = h c in let d = k c in let e = count_add c x y in omega (arith, a, b, d, e)

pub most_both : (one two all : CapKind → ℕ) (x y : Size) (a b n : ℕ) → a + b ≡ n → Sum one two all → DrawMost one x a → DrawMost two y b
    → DrawMost all (add_size x y) n
most_both one two all x y a b n is s h k c =
    let f = s c in
    let g = h c in
    let i = k c in
    let j = count_add c x y in
    let l = count_add c x (some_mods a) in
    let m = count_add c y (some_mods b) in
    let o = count_add c (add_size x y) (some_mods n) in
    let q = count_mods c a b n is in
    omega (arith, f, g, i, j, l, m, o, q)

-- of a part behind one that is done, and of one whose rest wasn't reached
pub most_behind : (one two all : CapKind → ℕ) (x y : Size) (n : ℕ) → Sum one two all → Draw one x → DrawMost two y n
    → DrawMost all (add_size x y) n
most_behind one two all x y n s h k = most_both one two all x y 0 n n (omega arith) s (draw_all one x h) k

pub draw_stop : (same : Handle → Handle → Bool) (d : CapKind → ℕ) (x : Size) (old : Rec Handle) → Draw d x
    → Draw d (add_size x (mended same old E).added)
draw_stop same d x old h = draw_both d no_draw d x (mended same old E).added (with_none d) h (draw_none same old)

pub most_stop : (same : Handle → Handle → Bool) (d : CapKind → ℕ) (x : Size) (old : Rec Handle) (n : ℕ) → DrawMost d x n
    → DrawMost d (add_size x (mended same old E).added) n
most_stop same d x old n h =
    most_both d no_draw d x (mended same old E).added n 0 n (omega arith) (with_none d) h (draw_all no_draw (mended same old E).added (draw_none same old))

-- what two calls made, one behind the other
pub long_both : {X : Type 0} (m n : ℕ) (xs ys : List X) → m ≡ length xs → n ≡ length ys → m + n ≡ length (xs ++ ys)
long_both m n xs ys a b = let l = length-append xs ys in omega (arith, a, b, l)
