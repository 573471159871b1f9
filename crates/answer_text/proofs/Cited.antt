-- Facts of the crates below that functions of this crate cite.
pub use Rattle.bags_themes.proofs.reference_resolver_proofs.Traces.{is_traced}
