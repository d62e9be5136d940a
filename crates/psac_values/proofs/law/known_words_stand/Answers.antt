use Rattle.psac_values.proofs.Terms.{ℕ, List, map, at_map, Handle, promised, unheld, ValueView, Valued, claims_of, rights_of, Promised}
use Rattle.psac_values.proofs.Keeps.{lacks}
use Rattle.psac_values.proofs.law.known_words_stand.Goals as goal

gives : (fixed count counter head : ℕ) (list : List Handle) (words : List ℕ) (views : List ValueView) → Valued fixed count counter head list words views → Promised fixed count words views
gives fixed count counter head list words views h = record {
  claims = promised count counter head list words (map claims_of views) h.claims;
  free_unknown = λ i v s e f. lacks fixed count counter head list words views h s (unheld words (map claims_of views) (promised count counter head list words (map claims_of views) h.claims) s f) i v e;
  mine_stands = λ i v w j x e m. ((h.each i v e).mine w m).stands j x;
  known_stands = λ i v w j x e m. ((h.each i v e).known w m).stands j x;
  one_writer = λ i j v u w x e f n. (h.rights.beside i j (rights_of v) (rights_of u) (at_map rights_of views i v e) (at_map rights_of views j u f) n).alone w x;
  writer_alone = λ i j v u w x e f n m. (h.rights.beside i j (rights_of v) (rights_of u) (at_map rights_of views i v e) (at_map rights_of views j u f) n).apart w m x;
}

pub returns : goal.returns
returns c = λ fixed count words views h. gives fixed count h.0 h.1 h.2 words views h.3
