-- What the contracts of `table_distances` cite; that the certificate is right is proved in `table_check`.
pub mod Certificate
