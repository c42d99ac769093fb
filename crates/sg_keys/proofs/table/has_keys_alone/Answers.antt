use Rattle.std.proofs.Common.{ℕ, List, Bor, bytes_eq, ◌∙◌}
use Rattle.std.specs.List.{list_any}
use Rattle.toml.specs.View.{table_view}
use Rattle.sg_keys.proofs.TableLaws.{keys_pass, keys_same, word_among}
use Rattle.sg_keys.proofs.table.has_keys_alone.Goals as goal

pub returns : goal.returns
returns c =
    let words = c.args.words.now in
    c.are_words.ensures ∙ keys_pass (λ k. list_any (λ (w : Bor (List ℕ)). bytes_eq k w.now) words) c.args.table.now.entries
    ∙ keys_same _ _ (λ k. word_among k (λ (w : Bor (List ℕ)). w.now) words) (table_view c.args.table.now)
