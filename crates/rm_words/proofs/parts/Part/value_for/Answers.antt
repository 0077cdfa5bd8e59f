use Rattle.rm_words.proofs.parts.Part.value_for.Goals as goal

pub split_at-requires : goal.split_at-requires
split_at-requires c = c.requires c.in-Joined.given c.in-Joined.from c.in-Joined.is
