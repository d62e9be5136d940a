use Rattle.psac_stage.proofs.Storing.{may_write, stored}
use Rattle.psac_stage.proofs.store.put_value.Goals as goal

pub write-requires-clause-mine : goal.write-requires-clause-mine
write-requires-clause-mine c = let f = c.requires.fixed in may_write f.0 c.args.slot c.args.pass.now.knows f.1 f.2

pub returns-clause-stored : goal.returns-clause-stored
returns-clause-stored c =
    let f = c.requires.fixed in
    stored f.0 c.args.slot c.args.value c.to_words.result c.args.pass.now.knows c.write.new.pass.knows f.1 f.2 c.to_words.ensures.words c.to_words.ensures.back c.write.ensures.wrote
