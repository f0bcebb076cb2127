-- The text of a `RewriteError`.
use Rattle.std.specs.Prelude.{ℕ, List, codes}
use Rattle.octseq_dns.specs.declared.rewriting.RewriteError.{RewriteError}

abbrev pub rewrite_error_text : RewriteError → List ℕ
rewrite_error_text RewriteError.Immovable = codes "data that can't be moved"
rewrite_error_text (RewriteError.Short e) = codes "buffer size exceeded"
rewrite_error_text RewriteError.Memory = codes "out of memory"
