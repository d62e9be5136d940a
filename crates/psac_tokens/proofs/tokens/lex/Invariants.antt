use Rattle.std.proofs.Common.{◌≡◌, ◌+◌, ◌-◌, ◌++◌, ◌≤◌, length}
use Rattle.psac_tokens.specs.Lex.{lexemes_from, FitsPlace}
use Rattle.psac_tokens.specs.Number.{tokens, names, texts, reads, tokens_after, names_after, texts_after, reads_after}
use Rattle.psac_tokens.proofs.tokens.lex.Given as goal

abbrev pub invariant-turns : goal.invariant-turns
invariant-turns l = record {
  tokens : l.tokens.items ++ tokens_after l.so_far.names l.so_far.texts l.so_far.reads (lexemes_from (length l.text + 1 - l.counter) l.rest l.place) ≡ tokens l.text;
  names : names_after l.so_far.names (lexemes_from (length l.text + 1 - l.counter) l.rest l.place) ≡ names l.text;
  texts : texts_after l.so_far.texts (lexemes_from (length l.text + 1 - l.counter) l.rest l.place) ≡ texts l.text;
  reads : reads_after l.so_far.reads (lexemes_from (length l.text + 1 - l.counter) l.rest l.place) ≡ reads l.text;
  fits : FitsPlace (length l.rest) l.place;
  within : length l.rest ≤ length l.text;
  few_names : length l.so_far.names + length l.rest ≤ length l.text;
  few_texts : length l.so_far.texts + length l.rest ≤ length l.text;
  few_reads : l.so_far.reads + length l.rest ≤ length l.text;
}
